use Rattle.conflicts.proofs.StaysLegal.{stay_legal}
use Rattle.conflicts.proofs.laws.stay_legal.Goals as goal

pub returns : goal.returns
returns c = stay_legal c.stays_legal.ensures
