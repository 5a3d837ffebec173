-- The last step is put anew.
use Rattle.std.proofs.Common.{List, [], ◌∷◌, ◌++◌, length, Some, sym, ap, ◌∙◌, subst}
use Rattle.std.specs.FinMap as finite
use Rattle.regtx_c.specs.declared.block.Step.{Step}
use Rattle.regtx_c.specs.Ways.{Leads, indexes, FindsNext, IsNextStep}
use Rattle.regtx_c.proofs.Ways.{joined_on, split_on, indexes_more, next_is, next_set}
use Rattle.regtx_c.proofs.steps.go_next.Goals as goal

pub returns-clause-on : goal.returns-clause-on
returns-clause-on c =
    let tree = c.args.tree.now in
    let way = c.args.way.now.items in
    let next : IsNextStep tree way c.in-Some.step = subst (λ (w : List Step). IsNextStep tree w c.in-Some.step) c.deref.ensures.value (subst (FindsNext tree c.deref.result.now) c.in-Some.is c.in_ok-step.ensures) in
    let parts = split_on (finite.entries tree) next.front next.last (subst (Leads tree) next.whole c.requires) in
    subst (Leads tree) (sym (next_set way next.front next.last c.in-Some.step c.len-last.result next.whole (c.len-last.ensures ∙ sym c.deref.ensures.len ∙ ap length c.deref.ensures.value))) (joined_on (finite.entries tree) next.front c.in-Some.step parts.0 next.goes)

pub returns-clause-steps : goal.returns-clause-steps
returns-clause-steps c =
    let tree = c.args.tree.now in
    let way = c.args.way.now.items in
    let next : IsNextStep tree way c.in-Some.step = subst (λ (w : List Step). IsNextStep tree w c.in-Some.step) c.deref.ensures.value (subst (FindsNext tree c.deref.result.now) c.in-Some.is c.in_ok-step.ensures) in (
      next.there,
      ap Some (ap indexes (next_set way next.front next.last c.in-Some.step c.len-last.result next.whole (c.len-last.ensures ∙ sym c.deref.ensures.len ∙ ap length c.deref.ensures.value)) ∙ indexes_more next.front c.in-Some.step ∙ ap (λ i. indexes next.front ++ i ∷ []) next.index)
          ∙ sym (next_is way next.front next.last next.whole),
    )
