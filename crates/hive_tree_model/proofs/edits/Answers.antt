use Rattle.hive_tree_model.proofs.Edited.{whole_after, tree_after}
use Rattle.hive_tree_model.proofs.OneRow.{own_row, other_rows}
use Rattle.hive_tree_model.proofs.edits.Goals as goal

pub returns-clause-whole : goal.returns-clause-whole
returns-clause-whole g c = λ read local old new root above subkey_list n path parts below w e. whole_after read local old new parts below root above subkey_list n path w e

pub returns-clause-rows : goal.returns-clause-rows
returns-clause-rows g c = λ read local old new root above subkey_list n path parts below w e q. tree_after read local old new parts below root above subkey_list n path w e q

pub returns-clause-own : goal.returns-clause-own
returns-clause-own g c = λ read local old new root above subkey_list n path parts below w e b. own_row read local old new parts below root above subkey_list n path w e b

pub returns-clause-others : goal.returns-clause-others
returns-clause-others g c = λ read local old new root above subkey_list n path parts below w e b q apart. other_rows read local old new parts below root above subkey_list n path w e b q apart
