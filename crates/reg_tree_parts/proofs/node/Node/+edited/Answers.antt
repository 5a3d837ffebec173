use Rattle.std.proofs.Common.{◌≡◌, IfSome, subst, arith}
use Rattle.reg_tree_parts.specs.Nodes.{root_name, IsNode}
use Rattle.reg_tree_parts.specs.Walks.{IsEdited}
use Rattle.reg_tree_parts.proofs.Walks.{edited_here, let_be_here, refused_here, step_falls, edited_below, let_be_below, refused_below}
use Rattle.reg_tree_parts.proofs.node.Node.+edited.Goals as goal

pub returns-in-Ok-Some-clause-made : goal.returns-in-Ok-Some-clause-made
returns-in-Ok-Some-clause-made g t c =
    edited_here (g.W.NodeEdit.Makes c.args.edit.now c.args.moment) c.args.self.now c.args.path.now c.in_default.ensures.missing c.key.result.now c.key.ensures.here c.in-Ok-Some.new
    (subst (g.W.NodeEdit.Makes c.args.edit.now c.args.moment c.args.self.now c.args.path.now) c.in-Ok-Some.field-0-is c.in-Ok-Some.ensures.made)
    (subst (λ o. IfSome o (λ new. root_name new ≡ root_name c.args.self.now)) c.in-Ok-Some.field-0-is c.in-Ok-Some.ensures.named)
    (subst (λ o. IfSome o IsNode) c.in-Ok-Some.field-0-is c.in-Ok-Some.ensures.node)

pub edited-requires : goal.edited-requires
edited-requires g t c κs within = (let fewer = step_falls c.args.self.now c.in-Some.child.now c.args.path.now c.in-Some.rest.now c.in-Some.ensures.on in omega (arith, c.decreases, fewer), within)

pub returns-in_ok-made-in-Ok-Some-edited-clause-made :
    goal.returns-in_ok-made-in-Ok-Some-edited-clause-made
returns-in_ok-made-in-Ok-Some-edited-clause-made g t c =
    let made = c.in_ok-made-in-Ok-Some-edited in
    edited_below c.args.self.now c.in-Some.child.now c.args.path.now c.in-Some.rest.now c.in-Some.ensures.on c.in-Ok-Some-edited.new made.made
    made.ensures.here made.ensures.child made.ensures.others made.ensures.root made.ensures.node (g.W.NodeEdit.Makes c.args.edit.now c.args.moment) c.in-Ok-Some-edited.missing
    (subst (IsEdited (g.W.NodeEdit.Makes c.args.edit.now c.args.moment) c.in-Some.child.now c.in-Some.rest.now) c.in-Ok-Some-edited.field-0-is c.in-Ok-Some-edited.ensures.made)

pub returns-in-Ok-None-edited-clause-made : goal.returns-in-Ok-None-edited-clause-made
returns-in-Ok-None-edited-clause-made g t c =
    let_be_below c.args.self.now c.in-Some.child.now c.args.path.now c.in-Some.rest.now c.in-Some.ensures.on (g.W.NodeEdit.Makes c.args.edit.now c.args.moment)
    (subst (IsEdited (g.W.NodeEdit.Makes c.args.edit.now c.args.moment) c.in-Some.child.now c.in-Some.rest.now) c.in-Ok-None-edited.field-0-is c.in-Ok-None-edited.ensures.made)

pub returns-in-Err-edited-clause-refused : goal.returns-in-Err-edited-clause-refused
returns-in-Err-edited-clause-refused g t c =
    refused_below c.args.self.now c.in-Some.child.now c.args.path.now c.in-Some.rest.now c.in-Some.ensures.on (g.W.NodeEdit.Refuses c.args.edit.now c.args.moment)
    c.in-Err-edited.why c.in-Err-edited.ensures.refused

pub returns-in-Ok-None-clause-made : goal.returns-in-Ok-None-clause-made
returns-in-Ok-None-clause-made g t c =
    let_be_here (g.W.NodeEdit.Makes c.args.edit.now c.args.moment) c.args.self.now c.args.path.now c.in_default.ensures.missing c.key.result.now c.key.ensures.here
    (subst (g.W.NodeEdit.Makes c.args.edit.now c.args.moment c.args.self.now c.args.path.now) c.in-Ok-None.field-0-is c.in-Ok-None.ensures.made)

pub returns-in-Err-clause-refused : goal.returns-in-Err-clause-refused
returns-in-Err-clause-refused g t c =
    refused_here (g.W.NodeEdit.Refuses c.args.edit.now c.args.moment) c.args.self.now c.args.path.now c.in_default.ensures.missing c.key.result.now c.key.ensures.here
    c.in-Err.why c.in-Err.ensures.refused
