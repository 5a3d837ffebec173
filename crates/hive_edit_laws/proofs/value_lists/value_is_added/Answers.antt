use Rattle.std.proofs.Common.{sym, subst}
use Rattle.hive_cells.specs.Bins.{Cells}
use Rattle.reg_names.specs.Names.{folded_path}
use Rattle.hive_records.specs.Images.{splits}
use Rattle.reg_tree_parts.specs.ValueEdits.{values_with}
use Rattle.hive_records.proofs.Images.{same_cells}
use Rattle.hive_edit_laws.specs.ValueEdits.{ValuesChange, AddsValue}
use Rattle.hive_edit_laws.proofs.RowRevisions.{set_encodes}
use Rattle.hive_edit_laws.proofs.ValueAdditions.{addition}
use Rattle.hive_edit_laws.proofs.value_lists.value_is_added.Goals as goal

pub returns-clause-values : goal.returns-clause-values
returns-clause-values c = λ old root minor tree path name key at index kind value_bytes moment before after found shows absent adds.
    subst (λ (z : Cells). ValuesChange (splits minor) z after key (values_with found.place.parts.row.values name kind value_bytes) moment) (sym (same_cells old before found.cells shows found.shows))
    (addition old root minor tree path name key at index kind value_bytes moment found after absent (subst (λ (z : Cells). AddsValue (splits minor) z after key at index (record { name = name; kind = kind; «data» = value_bytes }) moment) (same_cells old before found.cells shows found.shows) adds))

pub returns-clause-set : goal.returns-clause-set
returns-clause-set c = λ old new root minor tree hive path name key at index kind value_bytes moment before after found shows tiles shown absent adds. set_encodes old new root minor tree hive path name kind value_bytes key moment found tiles after shown
    (addition old root minor tree (folded_path path) name key at index kind value_bytes moment found after absent (subst (λ (z : Cells). AddsValue (splits minor) z after key at index (record { name = name; kind = kind; «data» = value_bytes }) moment) (same_cells old before found.cells shows found.shows) adds))
