use Rattle.std.proofs.Common.{subst}
use Rattle.hive_tree_model.specs.Cells.{SameBut}
use Rattle.hive_cells.specs.Bins.{Cells}
use Rattle.hive_records.proofs.Images.{same_cells}
use Rattle.hive_edit_laws.proofs.SecurityCounts.{found_again}
use Rattle.hive_edit_laws.proofs.list_edits.security_counts.Goals as goal

pub returns : goal.returns
returns c = λ old new root minor tree other path way key to at its before after found asked shows shown is there others now changes.
    found_again old new root minor tree other path way key to at found asked after shown is there (subst (λ (z : Cells). SameBut at z after) (same_cells old before asked.cells shows asked.shows) others) its now changes
