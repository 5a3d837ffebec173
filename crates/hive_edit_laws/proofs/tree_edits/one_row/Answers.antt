use Rattle.hive_edit_laws.proofs.OneRow.{row_there, own_at, others_at}
use Rattle.hive_edit_laws.proofs.tree_edits.one_row.Goals as goal

pub returns-clause-there : goal.returns-clause-there
returns-clause-there g c = λ reads root above subkey_list path place w e. row_there reads root above subkey_list path place w e

pub returns-clause-own : goal.returns-clause-own
returns-clause-own g c = λ read local there old new root above subkey_list path parts below w apart e is. own_at read local there old new root above subkey_list w apart path parts below e is

pub returns-clause-others : goal.returns-clause-others
returns-clause-others g c = λ read local there old new root above subkey_list path parts below w apart e is q other. others_at read local there old new root above subkey_list w apart path parts below e is q other
