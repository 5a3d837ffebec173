use Rattle.hive_edit_laws.proofs.KeyPlaces.{whole_at, apart_at, rows_at}
use Rattle.hive_edit_laws.proofs.tree_edits.edits_at.Goals as goal

pub returns-clause-whole : goal.returns-clause-whole
returns-clause-whole g c = λ read local there old new root above subkey_list path parts below w apart e. whole_at read local there old new root above subkey_list w apart path parts below e

pub returns-clause-apart : goal.returns-clause-apart
returns-clause-apart g c = λ read local there old new root above subkey_list path parts below w apart e. apart_at read local there old new root above subkey_list w apart path parts below e

pub returns-clause-rows : goal.returns-clause-rows
returns-clause-rows g c = λ read local there old new root above subkey_list path parts below w apart e q. rows_at read local there old new root above subkey_list w apart path parts below e q
