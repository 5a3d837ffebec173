use Rattle.std.proofs.Common.{subst}
use Rattle.hive_tree_model.specs.Keys.{offsets}
use Rattle.hive_cells.specs.Bins.{Cells}
use Rattle.hive_records.specs.Images.{splits}
use Rattle.hive_records.proofs.Images.{same_cells}
use Rattle.hive_edit_laws.specs.SubkeyLists.{AddsSubkey}
use Rattle.hive_edit_laws.proofs.KeyAdditions.{encodes}
use Rattle.hive_edit_laws.proofs.subkey_edits.keys_are_created.Goals as goal

pub returns : goal.returns
returns c = λ old new root minor tree hive front further name home at moment parts sub before after found shows tiles shown named absent adds keys.
    encodes old new root minor tree hive front further name home at moment parts sub found tiles after shown named absent
    (subst (λ (z : Cells). AddsSubkey (splits minor) z after home at (offsets found.place.below) found.place.parts.lent parts sub moment) (same_cells old before found.cells shows found.shows) adds) keys
