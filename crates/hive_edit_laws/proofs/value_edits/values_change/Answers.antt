use Rattle.std.proofs.Common.{subst}
use Rattle.hive_cells.specs.Bins.{Cells}
use Rattle.hive_records.specs.Images.{splits}
use Rattle.reg_tree_parts.specs.ValueEdits.{values_with, values_without}
use Rattle.hive_records.proofs.Images.{same_cells}
use Rattle.hive_edit_laws.specs.ValueEdits.{ValuesChange}
use Rattle.hive_edit_laws.proofs.RowRevisions.{values_encode, set_encodes, deleted_encodes}
use Rattle.hive_edit_laws.proofs.value_edits.values_change.Goals as goal

pub returns-clause-rows : goal.returns-clause-rows
returns-clause-rows c = λ old new root minor tree edited path key values moment before after found shows tiles shown change rows. values_encode old new root minor tree path key values moment found tiles after shown
    (subst (λ (z : Cells). ValuesChange (splits minor) z after key values moment) (same_cells old before found.cells shows found.shows) change) edited rows

pub returns-clause-set : goal.returns-clause-set
returns-clause-set c = λ old new root minor tree hive path name kind value_bytes key moment before after found shows tiles shown change. set_encodes old new root minor tree hive path name kind value_bytes key moment found tiles after shown
    (subst (λ (z : Cells). ValuesChange (splits minor) z after key (values_with found.place.parts.row.values name kind value_bytes) moment) (same_cells old before found.cells shows found.shows) change)

pub returns-clause-deleted : goal.returns-clause-deleted
returns-clause-deleted c = λ old new root minor tree hive path name key moment before after found shows tiles shown change. deleted_encodes old new root minor tree hive path name key moment found tiles after shown
    (subst (λ (z : Cells). ValuesChange (splits minor) z after key (values_without found.place.parts.row.values name) moment) (same_cells old before found.cells shows found.shows) change)
