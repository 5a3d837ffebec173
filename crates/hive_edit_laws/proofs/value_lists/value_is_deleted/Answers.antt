use Rattle.std.proofs.Common.{sym, subst}
use Rattle.hive_cells.specs.Bins.{Cells}
use Rattle.reg_names.specs.Names.{folded_path}
use Rattle.hive_records.specs.Images.{splits}
use Rattle.reg_tree_parts.specs.ValueEdits.{values_without}
use Rattle.hive_records.proofs.Images.{same_cells}
use Rattle.hive_edit_laws.specs.ValueEdits.{ValuesChange, DropsValue}
use Rattle.hive_edit_laws.proofs.RowRevisions.{deleted_encodes}
use Rattle.hive_edit_laws.proofs.ValueRemovals.{removal}
use Rattle.hive_edit_laws.proofs.value_lists.value_is_deleted.Goals as goal

pub returns-clause-values : goal.returns-clause-values
returns-clause-values c = λ old root minor tree path name key index at moment before after found shows drops.
    subst (λ (z : Cells). ValuesChange (splits minor) z after key (values_without found.in_key.place.parts.row.values name) moment) (sym (same_cells old before found.in_key.cells shows found.in_key.shows))
    (removal old root minor tree path name key index at moment found after (subst (λ (z : Cells). DropsValue (splits minor) z after key at index moment) (same_cells old before found.in_key.cells shows found.in_key.shows) drops))

pub returns-clause-deleted : goal.returns-clause-deleted
returns-clause-deleted c = λ old new root minor tree hive path name key index at moment before after found shows tiles shown drops. deleted_encodes old new root minor tree hive path name key moment found.in_key tiles after shown
    (removal old root minor tree (folded_path path) name key index at moment found after (subst (λ (z : Cells). DropsValue (splits minor) z after key at index moment) (same_cells old before found.in_key.cells shows found.in_key.shows) drops))
