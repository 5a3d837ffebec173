-- The trees of the first hives, and what operations make of them.
use Rattle.std.proofs.Common.{◌≡◌, ◌≤◌, ◌==◌, ◌+◌, ℕ, zero, suc, Bool, true, false, cond, List, [], ◌∷◌, ◌++◌, length, map, take, Option, Some, None, Ok, refl, sym, ◌∙◌, ap, subst, arith}
use Rattle.std.specs.Prelude.{slice_get, slice_set}
use Rattle.std.specs.List.{AllByRecursion}
use Rattle.std.proofs.lemmas.Bool.Decides.{Decides-eqb}
use Rattle.std.proofs.lemmas.List.{length-take}
use Rattle.std.proofs.lemmas.Option.{slice_get_past}
use Rattle.reg_tree_parts.specs.declared.value.Value.{Value}
use Rattle.reg_tree.specs.Maps.{TreeMap}
use Rattle.reg_tree.specs.Operations.{hive_of}
use Rattle.reg_tree.specs.Judgement.{applied, applied_if, applied_one, changed, legal, legal_if}
use Rattle.reg_tree.specs.Sequences.{after_elements}
use Rattle.reg_tree.specs.declared.element.Element.{Element}
use Rattle.reg_tree.specs.declared.op.Op.{Op}
use Rattle.reg_tree.specs.declared.op.Legality.TheVariants.{Legal}
use Rattle.commit_outcomes.specs.Commits.{Commit}
use Rattle.commit_outcomes.specs.Operations.{forget_op, outcome_ops, surplus, values_recorded}
use Rattle.commit_outcomes.specs.Trees.{root_values}
use Rattle.store_model.specs.Invariant.{AreLegalChanges}
use Rattle.store_model.specs.Machine.{Machine, commit_ops, has_outcomes, last_number, outcome_tree, trees_now, named_trees}
use Rattle.store_model.specs.Transactions.{fresh_transaction}
use Rattle.commit_outcomes.specs.Units.{unit_name}
use Rattle.store_model.proofs.Hives.{applied_on}
use Rattle.store_change.specs.Commits.{AcceptsOps, change_of}

-- What is among the first is there among all, and setting it commutes with taking the first. Setting another leaves them.

among_first : {A : Type 0} (n i : ℕ) (xs : List A) (x : A) → slice_get (take n xs) i ≡ Some x → slice_get xs i ≡ Some x
among_first zero i xs x is = cc
among_first (suc n) i [] x is = is
among_first (suc n) zero (y ∷ xs) x is = is
among_first (suc n) (suc i) (y ∷ xs) x is = among_first n i xs x is

set_first : {A : Type 0} (n i : ℕ) (xs : List A) (x : A) → slice_set (take n xs) i x ≡ take n (slice_set xs i x)
set_first zero i xs x = refl
set_first (suc n) i [] x = refl
set_first (suc n) zero (y ∷ xs) x = refl
set_first (suc n) (suc i) (y ∷ xs) x = ap (λ ys. y ∷ ys) (set_first n i xs x)

set_other : {A : Type 0} (n i : ℕ) (xs : List A) (x : A) → slice_get (take n xs) i ≡ None → take n (slice_set xs i x) ≡ take n xs
set_other zero i xs x none = refl
set_other (suc n) i [] x none = refl
set_other (suc n) zero (y ∷ xs) x none = absurd (let no : ⊥ = cc in no)
set_other (suc n) (suc i) (y ∷ xs) x none = ap (λ ys. y ∷ ys) (set_other n i xs x none)

-- Operations on all trees do to the first what they do to them alone

one_applied : (n : ℕ) (trees : List TreeMap) (op : Op) (moment : ℕ) → applied_one (take n trees) op moment ≡ take n (applied_one trees op moment)
one_applied n trees op moment = by_first (slice_get (take n trees) (hive_of op)) refl (slice_get trees (hive_of op)) refl
  where
    by_first : (first : Option TreeMap) → slice_get (take n trees) (hive_of op) ≡ first → (all : Option TreeMap) → slice_get trees (hive_of op) ≡ all → applied_one (take n trees) op moment ≡ take n (applied_one trees op moment)
    by_first (Some tree) at all there =
        ap (λ o. applied_if (take n trees) o op moment) at ∙ set_first n (hive_of op) trees (changed tree op moment)
        ∙ ap (λ o. take n (applied_if trees o op moment)) (sym (among_first n (hive_of op) trees tree at))
    by_first None at None there = ap (λ o. applied_if (take n trees) o op moment) at ∙ ap (λ o. take n (applied_if trees o op moment)) (sym there)
    by_first None at (Some tree) there =
        ap (λ o. applied_if (take n trees) o op moment) at ∙ sym (set_other n (hive_of op) trees (changed tree op moment) at) ∙ ap (λ o. take n (applied_if trees o op moment)) (sym there)

all_applied : (n : ℕ) (trees : List TreeMap) (ops : List Op) (moment : ℕ) → take n (applied trees ops moment) ≡ applied (take n trees) ops moment
all_applied n trees [] moment = refl
all_applied n trees (op ∷ ops) moment = all_applied n (applied_one trees op moment) ops moment ∙ ap (λ ts. applied ts ops moment) (sym (one_applied n trees op moment))

-- so what is legal on the first is legal on all
one_legal : (n : ℕ) (trees : List TreeMap) (op : Op) (first : Option TreeMap) → slice_get (take n trees) (hive_of op) ≡ first → legal_if first op ≡ Ok Legal → legal trees op ≡ Ok Legal
one_legal n trees op None at is = absurd (let no : ⊥ = cc in no)
one_legal n trees op (Some tree) at is = ap (λ o. legal_if o op) (among_first n (hive_of op) trees tree at) ∙ is

pub named_legal : (n : ℕ) (trees : List TreeMap) (ops : List Op) (moment : ℕ) → AreLegalChanges (take n trees) ops moment → AreLegalChanges trees ops moment
named_legal n trees [] moment are = are
named_legal n trees (op ∷ ops) moment are =
    (one_legal n trees op (slice_get (take n trees) (hive_of op)) refl are.0, named_legal n (applied_one trees op moment) ops moment (subst (λ ts. AreLegalChanges ts ops moment) (one_applied n trees op moment) are.1))

-- Operations on hives that are not there change nothing

past_all : (trees : List TreeMap) (ops : List Op) (moment : ℕ) → AllByRecursion (λ op. length trees ≤ hive_of op) ops → applied trees ops moment ≡ trees
past_all trees [] moment are = refl
past_all trees (op ∷ ops) moment are =
    let none : applied_one trees op moment ≡ trees = ap (λ o. applied_if trees o op moment) (slice_get_past trees (hive_of op) are.0) in
    ap (λ ts. applied ts ops moment) none ∙ past_all trees ops moment are.1

forgets_past : (n hive : ℕ) (values : List Value) → n ≤ hive → AllByRecursion (λ op. n ≤ hive_of op) (map (λ (v : Value). forget_op hive v.name) values)
forgets_past n hive [] le = tt
forgets_past n hive (v ∷ values) le = (le, forgets_past n hive values le)

outcomes_past : (n hive : ℕ) (tree : TreeMap) (commit : Commit) → n ≤ hive → AllByRecursion (λ op. n ≤ hive_of op) (outcome_ops hive tree commit)
outcomes_past n hive tree commit le = (le, forgets_past n hive (surplus (values_recorded (root_values tree) commit)) le)

commit_past : (b : Bool) (n hive : ℕ) (ops : List Op) → AllByRecursion (λ op. n ≤ hive_of op) ops → AllByRecursion (λ op. n ≤ hive_of op) (cond b ops [])
commit_past true n hive ops are = are
commit_past false n hive ops are = tt

-- What a commit makes of the trees of the hives that calls name: what its operations make of them

after_more : (trees : List TreeMap) (elements : List Element) (element : Element) → after_elements trees (elements ++ element ∷ []) ≡ applied (after_elements trees elements) element.ops element.moment
after_more trees [] element = refl
after_more trees (e ∷ elements) element = after_more (applied trees e.ops e.moment) elements element

none_of : (ops : List Op) → (length ops == 0) ≡ true → ops ≡ []
none_of [] e = refl
none_of (op ∷ ops) e = let none = (Decides-eqb (length (op ∷ ops)) 0).0 e in absurd (omega (arith, none))

pub named_after : (old new : Machine) (id : List ℕ) (moment : ℕ) (ops : List Op) → AcceptsOps old id moment ops new → named_trees new ≡ applied (named_trees old) ops moment
named_after old new id moment ops accepts = (λ i. take ((accepts.bounds i).hives) (after_elements (accepts.opened i) (accepts.accepted i))) ∙ by_none (length ops == 0) refl
  where
    n : ℕ
    n = old.bounds.hives

    more : List Op
    more = commit_ops old (fresh_transaction 0 id 0)

    front : List TreeMap
    front = applied (trees_now old) ops moment

    past : AllByRecursion (λ op. length (take n front) ≤ hive_of op) more
    past =
        let le : length (take n front) ≤ n = omega (arith, length-take n front) in
        commit_past (has_outcomes old) (length (take n front)) n (outcome_ops n (outcome_tree old.bounds (trees_now old)) (last_number old + 1, unit_name id))
        (outcomes_past (length (take n front)) n (outcome_tree old.bounds (trees_now old)) (last_number old + 1, unit_name id) le)

    by_none : (b : Bool) → (length ops == 0) ≡ b → take n (after_elements old.opened (cond b old.accepted (old.accepted ++ change_of old id moment ops ∷ []))) ≡ applied (named_trees old) ops moment
    by_none true e = ap (λ os. applied (named_trees old) os moment) (sym (none_of ops e))
    by_none false e =
        ap (take n) (after_more old.opened old.accepted (change_of old id moment ops) ∙ applied_on (trees_now old) ops more moment)
        ∙ all_applied n front more moment ∙ past_all (take n front) more moment past ∙ all_applied n (trees_now old) ops moment
