use Rattle.std.proofs.Common.{subst}
use Rattle.hive_tree_model.specs.Keys.{offsets}
use Rattle.hive_cells.specs.Bins.{Cells}
use Rattle.hive_records.specs.Images.{splits}
use Rattle.hive_records.proofs.Images.{same_cells}
use Rattle.hive_edit_laws.specs.SubkeyLists.{DropsSubkey}
use Rattle.hive_edit_laws.proofs.KeyRemovals.{deletion_encodes}
use Rattle.hive_edit_laws.proofs.subkey_edits.key_is_deleted.Goals as goal

pub returns : goal.returns
returns c = λ old new root minor tree hive front name home at moment before after found shows tiles shown named alone drops.
    deletion_encodes old new root minor tree hive front name home at moment found tiles after shown named alone
    (subst (λ (z : Cells). DropsSubkey (splits minor) z after home at (offsets found.place.below) moment) (same_cells old before found.cells shows found.shows) drops)
