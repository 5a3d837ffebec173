use Rattle.reg_tree.proofs.OthersStay.{one_by_one}
use Rattle.reg_tree.proofs.laws.one_by_one.Goals as goal

pub returns : goal.returns
returns c = one_by_one
