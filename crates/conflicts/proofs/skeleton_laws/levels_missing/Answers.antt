use Rattle.conflicts.proofs.Levels.{near_is}
use Rattle.conflicts.proofs.skeleton_laws.levels_missing.Goals as goal

pub returns : goal.returns
returns c = λ s k h root. near_is s k h root
