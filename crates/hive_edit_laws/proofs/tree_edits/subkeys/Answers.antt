use Rattle.hive_edit_laws.proofs.SubkeyEdits as law
use Rattle.hive_edit_laws.proofs.tree_edits.subkeys.Goals as goal

pub returns-clause-adds : goal.returns-clause-adds
returns-clause-adds g c = λ read local there old new root above subkey_list w apart path place parts front back at subkey sub e. law.adds read local there old new root above subkey_list w apart path place e.there parts front back at subkey sub e

pub returns-clause-drops : goal.returns-clause-drops
returns-clause-drops g c = λ read local there old new root above subkey_list w apart path place parts front back at subkey sub e. law.drops read local there old new root above subkey_list w apart path place e.there parts front back at subkey sub e

pub returns-clause-row : goal.returns-clause-row
returns-clause-row g c = λ front back at subkey sub apart n rest. law.rows_beside front at subkey sub back apart n rest

pub returns-clause-gone : goal.returns-clause-gone
returns-clause-gone g c = λ keys n rest apart. law.no_row keys n rest apart
