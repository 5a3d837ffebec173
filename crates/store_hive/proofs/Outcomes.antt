-- The tree of outcomes of a store: one up to a number is one up to any greater one.
use Rattle.std.proofs.Common.{◌≡◌, ℕ, ◌≤◌, Bool, true, false, List, [], ◌∷◌, length, refl, sym, ◌∙◌, ap, arith, IsTrue}
use Rattle.std.specs.Prelude.{◌||◌, ◌&&◌, ◌==◌, nat_le, nat_lt, is_some, map}
use Rattle.std.specs.List.{list_all}
use Rattle.std.specs.FinMap as finite
use Rattle.std.proofs.lemmas.Bool.{le-ltb}
use Rattle.std.proofs.lemmas.Bool.Decides.{nat_tests}
use Rattle.reg_tree.specs.Maps.{TreeMap, row}
use Rattle.reg_tree_parts.specs.declared.value.Value.{Value}
use Rattle.commit_outcomes.specs.Units.{is_unit_name}
use Rattle.commit_outcomes.specs.Trees.{are_distinct, are_outcomes, commit_of, is_commit_value, root_values}
use Rattle.commit_outcomes.specs.declared.commit_list.TheConstants.{COMMIT_KIND, MOST_COMMITS}
use Rattle.engine_invariant.specs.Rules.{rules}

and_right : (a b c : Bool) → (b ≡ true → c ≡ true) → (a && b) ≡ true → (a && c) ≡ true
and_right true b c f h = f h
and_right false b c f h = absurd cc

and_left : (a b c : Bool) → (a ≡ true → c ≡ true) → (a && b) ≡ true → (c && b) ≡ true
and_left true b c f h = ap (λ x. x && b) (f refl) ∙ h
and_left false b c f h = absurd cc

all_more : {X : Type 0} (p q : X → Bool) → ((x : X) → p x ≡ true → q x ≡ true) → (xs : List X) → list_all p xs ≡ true → list_all q xs ≡ true
all_more p q f [] h = refl
all_more p q f (x ∷ xs) h = and_left (p x) (list_all q xs) (q x) (f x) (and_right (p x) (list_all p xs) (list_all q xs) (all_more p q f xs) h)

later_value : (m n : ℕ) → m ≤ n → (v : Value) → is_commit_value m v ≡ true → is_commit_value n v ≡ true
later_value m n le v = and_right (is_unit_name v.name) _ _ (and_right (v.kind == COMMIT_KIND) _ _ (and_right (length v.«data» == 8) _ _ (and_right (list_all (λ b. nat_lt b 256) v.«data») _ _ (and_right (nat_le 1 (commit_of v).0) _ _ up))))
  where
    up : nat_le (commit_of v).0 m ≡ true → nat_le (commit_of v).0 n ≡ true
    up h = grind (arith, nat_tests)

pub later_outcomes : (m n : ℕ) → m ≤ n → (tree : TreeMap) → are_outcomes m tree ≡ true → are_outcomes n tree ≡ true
later_outcomes m n le tree =
    let values = finite.values (root_values tree) in
    and_right (finite.len tree == 1) _ _ (and_right (is_some (row tree [])) _ _ (and_right (nat_le (finite.len (root_values tree)) MOST_COMMITS) _ _
    (and_left (list_all (is_commit_value m) values) (are_distinct (map (λ (v : Value). (commit_of v).0) values)) (list_all (is_commit_value n) values) (all_more (is_commit_value m) (is_commit_value n) (later_value m n le) values))))

-- the tree that is allowed after those that calls name is of outcomes
pub outcomes_allowed : (named number i : ℕ) (tree : TreeMap) → named ≤ i → IsTrue ((rules named).allows i number tree) → are_outcomes number tree ≡ true
unfolding rules
outcomes_allowed named number i tree le h = sym (ap (λ b. b || are_outcomes number tree) (le-ltb i named le)) ∙ h
