use Rattle.conflicts.proofs.StaysLegal.{one_more}
use Rattle.conflicts.proofs.laws.one_more.Goals as goal

pub returns : goal.returns
returns c = one_more
