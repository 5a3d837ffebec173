-- What is told of the outcome of a unit of work.
use Rattle.std.proofs.Common.{◌≡◌, ◌∙◌, inl, inr, ℕ, ◌≤◌, List, length, Option, Some, None, ap, refl, subst, sym}
use Rattle.std.specs.Prelude.{slice_get}
use Rattle.std.proofs.lemmas.Option.{get_or_from_slice_get, slice_get_within}
use Rattle.refusals.specs.declared.refusal.Refusal.TheVariants.{NotFound, Unsupported}
use Rattle.reg_tree.specs.Maps.{TreeMap}
use Rattle.reg_tree.specs.Fresh.{fresh_tree}
use Rattle.commit_outcomes.specs.Commits.{Commit}
use Rattle.commit_outcomes.specs.Trees.{HasCommits, number_in}
use Rattle.store_model.specs.Machine.{bounds_for, outcome_tree}
use Rattle.ktm_calls.specs.Outcomes.{HasNoOutcome, HasOutcome, KeepsOutcomes}

module _ (hives : ℕ) (trees : List TreeMap) (unit : List ℕ) where
  -- a store without a tree of outcomes
  pub no_tree : length trees ≤ hives → HasNoOutcome hives trees unit Unsupported
  no_tree few = inl (refl, few)

  module _ (tree : TreeMap) (found : Option ℕ) (is : slice_get trees hives ≡ Some tree) (same : (commits : List Commit) → HasCommits commits tree → found ≡ number_in tree unit) where
    read : KeepsOutcomes hives trees → number_in (outcome_tree (bounds_for hives) trees) unit ≡ found
    read kept =
        let at : outcome_tree (bounds_for hives) trees ≡ tree = get_or_from_slice_get trees hives tree fresh_tree is in
        ap (λ (t : TreeMap). number_in t unit) at ∙ sym (same kept.0 (subst (λ (t : TreeMap). HasCommits kept.0 t) at kept.1))

    pub told : (number : ℕ) → found ≡ Some number → HasOutcome hives trees unit number
    told number some = (slice_get_within trees hives tree is, λ kept. read kept ∙ some)

    pub not_told : found ≡ None → HasNoOutcome hives trees unit NotFound
    not_told none = inr (refl, (slice_get_within trees hives tree is, λ kept. read kept ∙ none))
