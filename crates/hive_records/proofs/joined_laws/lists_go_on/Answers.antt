use Rattle.hive_records.proofs.ListsGoOn.{subkeys_out, subkeys_on, leaf_out, leaf_on}
use Rattle.hive_records.proofs.joined_laws.lists_go_on.Goals as goal

pub returns-clause-refused : goal.returns-clause-refused
returns-clause-refused c = subkeys_out

pub returns-clause-read : goal.returns-clause-read
returns-clause-read c = subkeys_on

pub returns-clause-leaf_refused : goal.returns-clause-leaf_refused
returns-clause-leaf_refused c = leaf_out

pub returns-clause-leaf_read : goal.returns-clause-leaf_read
returns-clause-leaf_read c = leaf_on
