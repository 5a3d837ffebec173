use Rattle.hive_edit_laws.proofs.Rows.{whole_there, row_edit}
use Rattle.hive_edit_laws.proofs.tree_edits.edits_row.Goals as goal

pub returns-clause-whole : goal.returns-clause-whole
returns-clause-whole g c = λ reads root above subkey_list path place w e. whole_there reads root above subkey_list path place w e

pub returns-clause-is : goal.returns-clause-is
returns-clause-is g c = λ read local there old new root above subkey_list path place parts w apart e. row_edit read local there old new root above subkey_list w apart path place parts e
