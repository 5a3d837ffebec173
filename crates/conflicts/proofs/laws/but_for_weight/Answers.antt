use Rattle.conflicts.proofs.StaysLegal.{but_for_weight}
use Rattle.conflicts.proofs.laws.but_for_weight.Goals as goal

pub returns : goal.returns
returns c = but_for_weight
