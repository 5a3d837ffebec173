use Rattle.std.proofs.Common.{Some, ◌∙◌, ap}
use Rattle.reg_tree_parts.proofs.PathSteps.{rows_leaf, branches}
use Rattle.reg_tree_parts.proofs.node.Node.+branch.Goals as goal

pub returns-in_default-clause-rows : goal.returns-in_default-clause-rows
returns-in_default-clause-rows t c = rows_leaf c.leaf.result c.args.name.now c.args.descriptor.now c.args.time (c.leaf.ensures.here ∙ ap Some c.in_ok-key.ensures) c.leaf.ensures.alone c.args.further.now c.in_default.ensures.cases

pub returns-clause-rows : goal.returns-clause-rows
returns-clause-rows t c =
    branches c.with_new_child.result c.leaf-leaf.result c.in_ok-child.child c.in_ok-key.key c.args.name.now c.in-Some.next.now c.args.descriptor.now c.in-Some.rest.now c.args.further.now c.args.time c.in_ok-key.ensures c.in_ok-child.ensures.root
    c.leaf-leaf.ensures.alone c.in_ok-child.ensures.rows c.in-Some.ensures.cases.0 c.with_new_child.ensures.here c.with_new_child.ensures.child c.with_new_child.ensures.others
