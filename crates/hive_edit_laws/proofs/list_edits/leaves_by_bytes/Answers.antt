use Rattle.hive_edit_laws.proofs.LeafBytes.{leaf_says, leaf_gives, leaf_like, leaf_more, leaf_fewer}
use Rattle.hive_edit_laws.proofs.list_edits.leaves_by_bytes.Goals as goal

pub returns-clause-says : goal.returns-clause-says
returns-clause-says c = λ cells at its bytes has here. leaf_says bytes cells at here its has

pub returns-clause-gives : goal.returns-clause-gives
returns-clause-gives c = λ cells at bytes here is. leaf_gives bytes cells at here is

pub returns-clause-like : goal.returns-clause-like
returns-clause-like c = λ old new count was same counts long. leaf_like old new was same count counts long

pub returns-clause-more : goal.returns-clause-more
returns-clause-more c = λ before after from at its old new index word has here there same counts long most shifts. leaf_more before after from at its old new index word has here there same counts long most shifts

pub returns-clause-fewer : goal.returns-clause-fewer
returns-clause-fewer c = λ before after from at its old new index has here there same counts long most shifts. leaf_fewer before after from at its old new index has here there same counts long most shifts
