use Rattle.hive_edit_laws.proofs.EqualReadings.{whole_again}
use Rattle.hive_edit_laws.proofs.tree_edits.same_readings.Goals as goal

pub returns : goal.returns
returns g c = λ old new root above subkey_list w same. whole_again old new root above subkey_list w same
