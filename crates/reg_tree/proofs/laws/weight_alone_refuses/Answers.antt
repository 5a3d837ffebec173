use Rattle.reg_tree.proofs.Weighing.{weight_refuses}
use Rattle.reg_tree.proofs.laws.weight_alone_refuses.Goals as goal

pub returns : goal.returns
returns c = weight_refuses
