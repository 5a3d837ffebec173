use Rattle.std.proofs.Common.{Some, ◌∙◌, ap}
use Rattle.reg_tree.proofs.FreshTrees.{fresh_is, fresh_rooted}
use Rattle.reg_tree.proofs.tree.Tree.fresh.Goals as goal

pub invariant_of-result : goal.invariant_of-result
invariant_of-result c = rw c.in_ok-root.ensures.ok (fresh_rooted c.leaf-leaf.result c.leaf-leaf.ensures.node (c.leaf-leaf.ensures.here ∙ ap Some c.in_ok-fresh_key.ensures) c.leaf-leaf.ensures.alone)

pub returns : goal.returns
returns c = rw c.in_ok-root.ensures.ok (fresh_is c.leaf-leaf.result c.leaf-leaf.ensures.node (c.leaf-leaf.ensures.here ∙ ap Some c.in_ok-fresh_key.ensures) c.leaf-leaf.ensures.alone)
