use Rattle.hive_records.proofs.WholesAgain.{no_subkeys}
use Rattle.hive_edit_laws.proofs.LeafBytes.{one_leaf, lists_read, list_cells_none, list_is_leaf, list_has_leaves, lists_like}
use Rattle.hive_edit_laws.proofs.list_edits.key_lists.Goals as goal

pub returns-clause-none : goal.returns-clause-none
returns-clause-none c = λ cells at. no_subkeys cells at

pub returns-clause-leaf : goal.returns-clause-leaf
returns-clause-leaf c = λ cells at bytes here count some is many. one_leaf bytes cells at here count some is many

pub returns-clause-lists : goal.returns-clause-lists
returns-clause-lists c = λ cells at bytes here count lists some is has many. lists_read bytes cells at here count lists some is has many

pub returns-clause-no_cells : goal.returns-clause-no_cells
returns-clause-no_cells c = λ cells count at own lent its h none. list_cells_none cells count at own lent its h none

pub returns-clause-one_cell : goal.returns-clause-one_cell
returns-clause-one_cell c = λ cells count at own lent its bytes h some here direct. list_is_leaf cells count at own lent its bytes h some here direct

pub returns-clause-cells : goal.returns-clause-cells
returns-clause-cells c = λ cells count at own lent its bytes h some here indirect. list_has_leaves cells count at own lent its bytes h some here indirect

pub returns-clause-like : goal.returns-clause-like
returns-clause-like c = λ old new count was same counts long. lists_like old new count was same counts long
