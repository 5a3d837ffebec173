use Rattle.hive_edit_laws.proofs.LeafBytes.{leaves_none, leaves_one, one_of_leaves, leaves_join, leaves_split, leaves_stay, leaves_own}
use Rattle.hive_edit_laws.proofs.list_edits.leaves_in_turn.Goals as goal

pub returns-clause-none : goal.returns-clause-none
returns-clause-none c = λ cells. leaves_none cells

pub returns-clause-one : goal.returns-clause-one
returns-clause-one c = λ cells leaf its has. leaves_one cells leaf its has

pub returns-clause-alone : goal.returns-clause-alone
returns-clause-alone c = λ cells leaf lists has. one_of_leaves cells leaf lists has

pub returns-clause-join : goal.returns-clause-join
returns-clause-join c = λ cells first rest us ws h g. leaves_join cells first rest us ws h g

pub returns-clause-split : goal.returns-clause-split
returns-clause-split c = λ cells first rest lists has. leaves_split cells first rest lists has

pub returns-clause-stay : goal.returns-clause-stay
returns-clause-stay c = λ before after leaves lists has stays. leaves_stay before after leaves lists has stays

pub returns-clause-own : goal.returns-clause-own
returns-clause-own c = λ cells leaves lists own lent h. leaves_own cells leaves lists own lent h
