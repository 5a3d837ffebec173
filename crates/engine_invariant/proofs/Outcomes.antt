-- The trees of now are allowed: the one beside those that calls name has the outcomes of commits up to the last number.
use Rattle.std.proofs.Common.{◌≡◌, ◌⊎◌, inl, inr, ℕ, ◌+◌, ◌<◌, ◌≤◌, ◌^◌, true, List, [], ◌∷◌, ◌++◌, length, map, refl, sym, ◌∙◌, ap, arith, option_map, slice_get, Some, IsTrue}
use Rattle.std.specs.Prelude.{◌||◌, nat_lt}
use Rattle.std.proofs.Math.Bool.{or-true}
use Rattle.std.proofs.lemmas.Bool.{cases_lt, lt-ltb}
use Rattle.std.proofs.lemmas.Option.{get_or_from_slice_get}
use Rattle.refusals.specs.declared.limits.TheConstants.{GREATEST_NUMBER}
use Rattle.reg_tree.specs.Maps.{TreeMap}
use Rattle.reg_tree.specs.Fresh.{fresh_tree}
use Rattle.reg_tree.specs.Judgement as trees
use Rattle.reg_tree.specs.Sequences.{after_elements}
use Rattle.reg_tree.specs.declared.element.Element.{Element}
use Rattle.crash_model.specs.Changes.{on_hive, applied}
use Rattle.crash_model.specs.Life.{tree_at}
use Rattle.crash_model.proofs.HiveByHive.{after_element_at}
use Rattle.commit_outcomes.specs.Commits.{Commit, AreUpTo, kept}
use Rattle.commit_outcomes.specs.Trees.{HasCommits, are_outcomes}
use Rattle.store_model.specs.Machine.{Machine, has_outcomes, outcome_tree, trees_now, last_number}
use Rattle.store_model.specs.Invariant.{InvariantHolds, KeepsOutcomes, AcceptsOneChange}
use Rattle.change_codec.specs.ModelChanges.{timed_element}
use Rattle.engine_invariant.specs.Rules.{rules}
use Rattle.engine_invariant.specs.States.{tree_of, life_of}
use Rattle.engine_invariant.proofs.Bridge.{tree_is, trees_at_last, ops_are}

-- a tree that has commits up to a number passes the test for one of outcomes
abbrev pub Passes : Type 0
Passes = (number : ℕ) (tree : TreeMap) (commits : List Commit) → HasCommits commits tree → AreUpTo number commits → number < 2 ^ 64 → are_outcomes number tree ≡ true

pub allowed_now : Passes → (m : Machine) → InvariantHolds m → length m.opened ≤ m.bounds.hives + 1 → (i : ℕ) → i < length m.opened
    → IsTrue ((rules m.bounds.hives).allows i (last_number m) (tree_of (trees_now m) i))
unfolding rules
allowed_now passes m holds few i lt = elim (cases_lt i m.bounds.hives) [
  | inl named ↦ ap (λ b. b || are_outcomes (last_number m) (tree_of (trees_now m) i)) (lt-ltb i m.bounds.hives named)
  | inr other ↦ ap (λ b. nat_lt i m.bounds.hives || b) (is_of_outcomes (omega (arith, lt, few, other))) ∙ or-true (nat_lt i m.bounds.hives)
]
  where
    is_of_outcomes : i ≡ m.bounds.hives → are_outcomes (last_number m) (tree_of (trees_now m) i) ≡ true
    is_of_outcomes e =
        let keeps : KeepsOutcomes m = holds.outcomes (lt-ltb m.bounds.hives (length m.opened) (omega (arith, lt, e))) in
        ap (λ k. are_outcomes (last_number m) (tree_of (trees_now m) k)) e ∙ passes (last_number m) (outcome_tree m.bounds (trees_now m)) (kept (keeps.before ++ m.commits)) keeps.now keeps.numbers (omega (arith, holds.within.numbers))

-- the trees after one change more
after_one_more : (ts : List TreeMap) (es : List Element) (e : Element) → after_elements ts (es ++ e ∷ []) ≡ trees.applied (after_elements ts es) e.ops e.moment
after_one_more ts [] e = refl
after_one_more ts (x ∷ xs) e = after_one_more (trees.applied ts x.ops x.moment) xs e

-- a hive's tree after one change more
pub tree_grown : (named : ℕ) (old new : Machine) (base : ℕ) (opened : List Element) → old.before ≡ base + length opened → (g : AcceptsOneChange old new) → (i : ℕ) → i < length old.opened
    → tree_of (trees_now new) i ≡ applied (rules named) (on_hive i (timed_element g.element)) (tree_at (rules named) (life_of old base opened) (last_number old) i)
tree_grown named old new base opened begun g i lt = get_or_from_slice_get (trees_now new) i (applied (rules named) (on_hive i (timed_element g.element)) (tree_at (rules named) (life_of old base opened) (last_number old) i)) fresh_tree (
    ap (λ (ts : List TreeMap). slice_get (after_elements ts new.accepted) i) g.opened
    ∙ ap (λ (es : List Element). slice_get (after_elements old.opened es) i) g.accepted
    ∙ ap (λ (ts : List TreeMap). slice_get ts i) (after_one_more old.opened old.accepted g.element ∙ ops_are named (trees_now old) g.element.moment g.element.ops)
    ∙ after_element_at (rules named) i (timed_element g.element) (trees_now old)
    ∙ ap (option_map (applied (rules named) (on_hive i (timed_element g.element)))) (ap (λ (ts : List TreeMap). slice_get ts i) (sym (trees_at_last old)) ∙ tree_is named old base opened begun (last_number old) i lt))
