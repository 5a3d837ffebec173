use Rattle.std.proofs.Common.{◌≡◌, inl, inr, ℕ, List, refl, ◌∙◌, sym, ap, subst}
use Rattle.std.specs.Map.{keys_of}
use Rattle.hive_tree_model.specs.Lists.{IsIn}
use Rattle.hive_load_parts.specs.CellReads.{marks_of}
use Rattle.hive_load_parts.proofs.Kept.{in_keys, keys_in}
use Rattle.hive_load_parts.proofs.descriptors.Descriptors.are_apart.Goals as goal

in_as : (at : ℕ) (xs ys : List ℕ) → xs ≡ ys → IsIn at xs → IsIn at ys
in_as at xs ys e h = subst (λ (zs : List ℕ). IsIn at zs) e h

pub loop-at-init : goal.loop-at-init
loop-at-init c =
    let all = c.into_iter-at-iterator.ensures.into_iter_gives ∙ c.keys-at-items.ensures.rest ∙ ap keys_of c.self.view_is in
    record {
      left = λ at h. inl (in_as at _ _ (sym all) (in_keys c.args.self.now at h));
      kept = λ at h. keys_in c.args.self.now at (in_as at _ _ all h);
    }

pub returns-then-is_marked-clause-met : goal.returns-then-is_marked-clause-met
returns-then-is_marked-clause-met c = λ _. (c.in-Some.at.now, c.loop-at.invariant.kept c.in-Some.at.now (in_as c.in-Some.at.now _ _ (sym c.in-Some.ensures.steps) (inl refl)), sym c.is_marked.ensures ∙ c.if-is_marked.true)

pub loop-at-preserved : goal.loop-at-preserved
loop-at-preserved c = record {
  left = λ at h. elim (c.loop-at.invariant.left at h) [
    | inl i ↦ elim (in_as at _ _ c.in-Some.ensures.steps i) [ inl e ↦ inr (ap (marks_of c.args.seen.now) e ∙ sym c.is_marked.ensures ∙ c.if-is_marked.false) | inr j ↦ inl j ]
    | inr f ↦ inr f
  ];
  kept = λ at h. c.loop-at.invariant.kept at (in_as at _ _ (sym c.in-Some.ensures.steps) (inr h));
}

pub returns-clause-apart : goal.returns-clause-apart
returns-clause-apart c = λ _ at h. elim (c.loop-at.invariant.left at h) [ inl i ↦ absurd (in_as at _ _ c.in-None.ensures.steps.0 i) | inr f ↦ f ]
