-- The trees and changes of the project are those of the crash model.
use Rattle.std.proofs.Common.{◌≡◌, ℕ, zero, suc, ◌+◌, ◌-◌, ◌<◌, List, [], ◌∷◌, length, map, take, refl, sym, ◌∙◌, ap, subst, arith, Option, Some, None, Ok, true, cond, slice_get, option_map, IsTrue}
use Rattle.std.specs.Prelude.{slice_set}
use Rattle.std.proofs.lemmas.Option.{none-some, slice_get_within, slice_get-get_or, get_or_from_slice_get}
use Rattle.std.proofs.lemmas.List.{take-map, take_all, length-map}
use Rattle.std.proofs.lemmas.Bool.Decides.{nat_tests}
use Rattle.std.specs.List.{AllByRecursion}
use Rattle.reg_tree.specs.Maps.{TreeMap}
use Rattle.reg_tree.specs.Fresh.{fresh_tree}
use Rattle.reg_tree.specs.Operations.{hive_of}
use Rattle.reg_tree.specs.Judgement.{legal, legal_if, changed, applied, applied_one, applied_if}
use Rattle.reg_tree.specs.Sequences.{after_elements}
use Rattle.reg_tree.specs.declared.op.Op.{Op}
use Rattle.reg_tree.specs.declared.op.Legality.TheVariants.{Legal}
use Rattle.reg_tree.specs.declared.element.Element.{Element}
use Rattle.crash_model.specs.Changes as law
use Rattle.crash_model.specs.Changes.{on_hive, ops_on}
use Rattle.crash_model.specs.AllHives as all
use Rattle.crash_model.specs.AllHives.{changed_at, after_element, legal_there, run_element}
use Rattle.crash_model.specs.Life.{NamesHive, tree_at, opened_number}
use Rattle.crash_model.specs.Life as life
use Rattle.crash_model.proofs.HiveByHive.{after_elements_at}
use Rattle.store_model.specs.Machine.{Machine, trees_now, last_number}
use Rattle.store_model.specs.Invariant.{AreLegalChanges}
use Rattle.change_codec.specs.ModelChanges.{TimedOp, tree_rules, is_legal, timed, timed_element, timed_elements}
use Rattle.store_model.proofs.TreeCounts.{one_long}
use Rattle.engine_invariant.specs.Rules.{rules}
use Rattle.engine_invariant.specs.States.{tree_of, life_of}
use Rattle.engine_invariant.specs.Prefixes.{trees_after}

-- An operation on the list of trees changes the tree of its hive

set_is : (f : TreeMap → TreeMap) (ts : List TreeMap) (h : ℕ) (t : TreeMap) → slice_get ts h ≡ Some t → slice_set ts h (f t) ≡ changed_at f ts h
set_is f [] h t e = absurd (none-some t e)
set_is f (u ∷ ts) zero t e = ap (λ x. f x ∷ ts) (let same : t ≡ u = cc e in same)
set_is f (u ∷ ts) (suc h) t e = ap (λ (x : List TreeMap). u ∷ x) (set_is f ts h t e)

set_none : (f : TreeMap → TreeMap) (ts : List TreeMap) (h : ℕ) → slice_get ts h ≡ None → ts ≡ changed_at f ts h
set_none f [] h e = refl
set_none f (u ∷ ts) zero e = absurd (none-some u (sym e))
set_none f (u ∷ ts) (suc h) e = ap (λ (x : List TreeMap). u ∷ x) (set_none f ts h e)

one_is : (named : ℕ) (ts : List TreeMap) (moment : ℕ) (op : Op) → applied_one ts op moment ≡ changed_at ((rules named).apply (moment, op)) ts (hive_of op)
unfolding tree_rules rules
one_is named ts moment op = by_slot (slice_get ts (hive_of op)) refl
  where
    by_slot : (o : Option TreeMap) → slice_get ts (hive_of op) ≡ o → applied_if ts o op moment ≡ changed_at (λ t. changed t op moment) ts (hive_of op)
    by_slot None e = set_none (λ t. changed t op moment) ts (hive_of op) e
    by_slot (Some t) e = set_is (λ t. changed t op moment) ts (hive_of op) t e

pub ops_are : (named : ℕ) (ts : List TreeMap) (moment : ℕ) (ops : List Op) → applied ts ops moment ≡ after_element (rules named) (map (timed moment) ops) ts
ops_are named ts moment [] = refl
ops_are named ts moment (op ∷ ops) = ops_are named (applied_one ts op moment) moment ops ∙ ap (after_element (rules named) (map (timed moment) ops)) (one_is named ts moment op)

all_are : (named : ℕ) (ts : List TreeMap) (es : List Element) → after_elements ts es ≡ all.after_elements (rules named) (timed_elements es) ts
all_are named ts [] = refl
all_are named ts (e ∷ es) = all_are named (applied ts e.ops e.moment) es ∙ ap (all.after_elements (rules named) (timed_elements es)) (ops_are named ts e.moment e.ops)

-- The crash model's trees are the project's

pub number_is : (m : Machine) (base : ℕ) (opened : List Element) → m.before ≡ base + length opened → opened_number (life_of m base opened) ≡ m.before
number_is m base opened e = omega (arith, e, length-map opened timed_element)

pub last_is : (m : Machine) (base : ℕ) (opened : List Element) → m.before ≡ base + length opened → life.last_number (life_of m base opened) ≡ last_number m
last_is m base opened e = omega (arith, number_is m base opened e, length-map m.accepted timed_element)

pub tree_is : (named : ℕ) (m : Machine) (base : ℕ) (opened : List Element) → m.before ≡ base + length opened → (n i : ℕ) → i < length m.opened
    → slice_get (trees_after m n) i ≡ Some (tree_at (rules named) (life_of m base opened) n i)
tree_is named m base opened begun n i lt =
    ap (λ (ts : List TreeMap). slice_get ts i) (all_are named m.opened (take (n - m.before) m.accepted))
    ∙ after_elements_at (rules named) i (timed_elements (take (n - m.before) m.accepted)) m.opened
    ∙ ap (option_map (law.applied (rules named) (ops_on i (timed_elements (take (n - m.before) m.accepted))))) (slice_get-get_or m.opened i fresh_tree lt)
    ∙ ap (λ (es : List (law.Element TimedOp)). Some (law.applied (rules named) (ops_on i es) (tree_of m.opened i))) (sym (take-map timed_element (n - m.before) m.accepted))
    ∙ ap (λ k. Some (law.applied (rules named) (ops_on i (take (n - k) (timed_elements m.accepted))) (tree_of m.opened i))) (sym (number_is m base opened begun))

pub tree_of_is : (named : ℕ) (m : Machine) (base : ℕ) (opened : List Element) → m.before ≡ base + length opened → (n i : ℕ) → i < length m.opened
    → tree_of (trees_after m n) i ≡ tree_at (rules named) (life_of m base opened) n i
tree_of_is named m base opened begun n i lt = get_or_from_slice_get (trees_after m n) i (tree_at (rules named) (life_of m base opened) n i) fresh_tree (tree_is named m base opened begun n i lt)

pub trees_at_last : (m : Machine) → trees_after m (last_number m) ≡ trees_now m
trees_at_last m = ap (after_elements m.opened) (take_all (last_number m - m.before) m.accepted (omega arith))

-- What the machine finds legal is legal in the crash model

legal_is : (named : ℕ) (ts : List TreeMap) (op : Op) (moment : ℕ) → legal ts op ≡ Ok Legal → legal_there (rules named) (moment, op) (slice_get ts (hive_of op)) ≡ true
unfolding tree_rules rules
legal_is named ts op moment e = by_slot (slice_get ts (hive_of op)) e
  where
    by_slot : (o : Option TreeMap) → legal_if o op ≡ Ok Legal → legal_there (rules named) (moment, op) o ≡ true
    by_slot None f = absurd cc
    by_slot (Some t) f = ap is_legal f

there : (ts : List TreeMap) (op : Op) → legal ts op ≡ Ok Legal → hive_of op < length ts
there ts op e = by_slot (slice_get ts (hive_of op)) refl e
  where
    by_slot : (o : Option TreeMap) → slice_get ts (hive_of op) ≡ o → legal_if o op ≡ Ok Legal → hive_of op < length ts
    by_slot None is f = absurd cc
    by_slot (Some t) is f = slice_get_within ts (hive_of op) t is

pub run_ops : (named : ℕ) (ts : List TreeMap) (ops : List Op) (moment : ℕ) → AreLegalChanges ts ops moment → run_element (rules named) (map (timed moment) ops) ts ≡ Some (after_element (rules named) (map (timed moment) ops) ts)
run_ops named ts [] moment l = refl
run_ops named ts (op ∷ ops) moment (first, rest) =
    ap (λ b. cond b (run_element (rules named) (map (timed moment) ops) (changed_at ((rules named).apply (moment, op)) ts (hive_of op))) None) (legal_is named ts op moment first)
    ∙ run_ops named (changed_at ((rules named).apply (moment, op)) ts (hive_of op)) ops moment (subst (λ x. AreLegalChanges x ops moment) (one_is named ts moment op) rest)

on_own : (h : ℕ) (o : TimedOp) (ps : law.Element TimedOp) → on_hive h ((h, o) ∷ ps) ≡ o ∷ on_hive h ps
on_own h o ps = grind (arith, nat_tests)

pub names : (ts : List TreeMap) (op : Op) (ops : List Op) (moment : ℕ) → AreLegalChanges ts (op ∷ ops) moment → NamesHive (length ts) (map (timed moment) (op ∷ ops))
names ts op ops moment l = (hive_of op, there ts op l.0, (moment, op), on_hive (hive_of op) (map (timed moment) ops), on_own (hive_of op) (moment, op) (map (timed moment) ops))

-- each of its operations is on a hive of the store
pub ops_there : (ts : List TreeMap) (ops : List Op) (moment : ℕ) → AreLegalChanges ts ops moment → AllByRecursion (λ op. hive_of op < length ts) ops
ops_there ts [] moment l = tt
ops_there ts (op ∷ ops) moment (first, rest) = (there ts op first, subst (λ n. AllByRecursion (λ op. hive_of op < n) ops) (one_long ts op moment) (ops_there (applied_one ts op moment) ops moment rest))
