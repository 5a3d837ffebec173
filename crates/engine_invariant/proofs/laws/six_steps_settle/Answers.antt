use Rattle.engine_invariant.proofs.Advancing.{settle}
use Rattle.engine_invariant.proofs.laws.six_steps_settle.Goals as goal

pub returns : goal.returns
returns c = λ machines left count enough some steps. settle machines left count some steps enough
