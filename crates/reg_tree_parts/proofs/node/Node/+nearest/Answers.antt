use Rattle.std.proofs.Common.{◌≡◌, ◌∷◌}
use Rattle.reg_tree_parts.proofs.PathSteps.{missing_below}
use Rattle.reg_tree_parts.proofs.node.Node.+nearest.Goals as goal

pub returns-in-Some-child-clause-missing : goal.returns-in-Some-child-clause-missing
returns-in-Some-child-clause-missing t c =
    let path : c.args.path.now ≡ c.in-Some.name.now ∷ c.in-Some.rest.now = c.in-Some.ensures.cases.0 in
    rw path (missing_below c.args.self.now c.in-Some-child.child.now c.in-Some.name.now c.in-Some.rest.now c.nearest-depth.result.1 c.in-Some-child.ensures.found c.nearest-depth.ensures.missing)
