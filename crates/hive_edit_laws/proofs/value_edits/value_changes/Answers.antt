use Rattle.std.proofs.Common.{sym, subst}
use Rattle.hive_cells.specs.Bins.{Cells}
use Rattle.reg_names.specs.Names.{folded_path}
use Rattle.hive_records.specs.Images.{splits}
use Rattle.reg_tree_parts.specs.ValueEdits.{values_with}
use Rattle.hive_records.proofs.Images.{same_cells}
use Rattle.hive_edit_laws.specs.ValueEdits.{ValuesChange, ValueChanges}
use Rattle.hive_edit_laws.proofs.RowRevisions.{set_encodes}
use Rattle.hive_edit_laws.proofs.OneValue as one
use Rattle.hive_edit_laws.proofs.value_edits.value_changes.Goals as goal

pub returns-clause-values : goal.returns-clause-values
returns-clause-values c = λ old root minor tree path name key index at kind value_bytes moment before after found shows change.
    subst (λ (z : Cells). ValuesChange (splits minor) z after key (values_with found.in_key.place.parts.row.values name kind value_bytes) moment) (sym (same_cells old before found.in_key.cells shows found.in_key.shows))
    (one.value_changes old root minor tree path name key index at kind value_bytes moment found after (subst (λ (z : Cells). ValueChanges (splits minor) z after key at kind value_bytes moment) (same_cells old before found.in_key.cells shows found.in_key.shows) change))

pub returns-clause-set : goal.returns-clause-set
returns-clause-set c = λ old new root minor tree hive path name key index at kind value_bytes moment before after found shows tiles shown change. set_encodes old new root minor tree hive path name kind value_bytes key moment found.in_key tiles after shown
    (one.value_changes old root minor tree (folded_path path) name key index at kind value_bytes moment found after (subst (λ (z : Cells). ValueChanges (splits minor) z after key at kind value_bytes moment) (same_cells old before found.in_key.cells shows found.in_key.shows) change))
