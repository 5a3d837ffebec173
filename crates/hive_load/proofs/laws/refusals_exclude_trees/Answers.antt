use Rattle.hive_load.proofs.Ends.{excluded}
use Rattle.hive_load.proofs.laws.refusals_exclude_trees.Goals as goal

pub returns : goal.returns
returns c = λ bytes root minor why h some tree s w. excluded bytes root minor why h some tree s w
