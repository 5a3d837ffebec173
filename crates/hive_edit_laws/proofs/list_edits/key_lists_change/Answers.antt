use Rattle.hive_edit_laws.proofs.ListChanges.{list_with, list_without, leaves_with}
use Rattle.hive_edit_laws.proofs.list_edits.key_lists_change.Goals as goal

pub returns-clause-more : goal.returns-clause-more
returns-clause-more c = λ before after count at to own lent its old new index word h some here direct there same counts long most shifts. list_with before after count at to own lent its old new h some here direct there same index word counts long most shifts

pub returns-clause-fewer : goal.returns-clause-fewer
returns-clause-fewer c = λ before after count at to own lent its old new left index h some here direct there same is some_left counts long most shifts. list_without before after count at to own lent its old new h some here direct there same left index is some_left counts long most shifts

pub returns-clause-leaf : goal.returns-clause-leaf
returns-clause-leaf c = λ before after words index leaf its lists news new_lists had get mine now stays. leaves_with before after words index leaf its lists news new_lists had get mine now stays
