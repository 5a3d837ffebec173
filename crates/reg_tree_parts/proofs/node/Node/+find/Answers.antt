use Rattle.std.proofs.Common.{◌≡◌, ◌∷◌, ◌∙◌}
use Rattle.reg_tree_parts.proofs.PathSteps.{some_of, none_of}
use Rattle.reg_tree_parts.proofs.node.Node.+find.Goals as goal

pub returns-in-Some-child-clause-found : goal.returns-in-Some-child-clause-found
returns-in-Some-child-clause-found t c =
    let path : c.args.path.now ≡ c.in-Some.name.now ∷ c.in-Some.rest.now = c.in-Some.ensures.cases.0 in
    some_of c.find.result (λ node there rest. rw path (c.in-Some-child.ensures.found _ ∙ there rest)) c.find.ensures.found

pub returns-in-Some-child-clause-none : goal.returns-in-Some-child-clause-none
returns-in-Some-child-clause-none t c =
    let path : c.args.path.now ≡ c.in-Some.name.now ∷ c.in-Some.rest.now = c.in-Some.ensures.cases.0 in
    none_of c.find.result (λ missing rest. rw path (c.in-Some-child.ensures.found _ ∙ missing rest)) c.find.ensures.none
