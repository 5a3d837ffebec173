use Rattle.hive_walk.proofs.Faults.{excludes, excludes_short}
use Rattle.hive_walk.proofs.laws.faults_exclude_trees.Goals as goal

pub returns-clause-none : goal.returns-clause-none
returns-clause-none c = λ bytes root minor fault h some tree s. excludes bytes root minor h.0 h.1 fault.refusal h.2 some tree s

pub returns-clause-limits : goal.returns-clause-limits
returns-clause-limits c = λ bytes root minor fault h tree s w. excludes_short bytes root minor h.0 h.1 fault.refusal h.2 tree s w
