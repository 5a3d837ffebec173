use Rattle.reg_tree.proofs.Rows.{weight_is}
use Rattle.reg_tree.proofs.tree.Tree.weight.Goals as goal

pub returns : goal.returns
returns c = rw (← c.self.view_is, weight_is _ c.self.invariant.node, ← c.deref.ensures) c.weight.ensures
