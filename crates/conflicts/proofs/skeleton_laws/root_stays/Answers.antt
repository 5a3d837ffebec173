use Rattle.conflicts.proofs.Root.{root_stays_one, root_stays_all}
use Rattle.conflicts.proofs.skeleton_laws.root_stays.Goals as goal

pub returns-clause-one : goal.returns-clause-one
returns-clause-one c = root_stays_one

pub returns-clause-all : goal.returns-clause-all
returns-clause-all c = root_stays_all
