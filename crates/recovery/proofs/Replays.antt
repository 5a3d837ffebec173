-- Changes replayed on one tree, one after another, each legal or not.
use Rattle.std.proofs.Common.{◌≡◌, ◌≢◌, ℕ, Bool, true, false, List, [], ◌∷◌, ◌++◌, map, refl, sym, ap, ◌∙◌, None, Ok, Err}
use Rattle.std.specs.Prelude.{if◌then◌else◌}
use Rattle.std.proofs.lemmas.Bool.{eq-eqb, ne_eqb}
use Rattle.crash_model.specs.Changes.{Rules, on_hive, replay}
use Rattle.reg_tree.specs.Maps.{TreeMap}
use Rattle.reg_tree.specs.Operations.{hive_of}
use Rattle.reg_tree.specs.declared.op.Op.{Op}
use Rattle.reg_tree.specs.Judgement.{changed, legal_in}
use Rattle.reg_tree.specs.declared.op.Legality.TheVariants.{Legal, Opened}
use Rattle.refusals.specs.declared.refusal.Refusal.{Refusal}
use Rattle.change_codec.specs.ModelChanges.{TimedOp, is_legal, tree_rules, timed}

-- a written operation is legal, and leads where the tree_rules say; one that opens a key, or is refused, isn't legal
pub legal_is : (tree : TreeMap) (op : Op) (moment : ℕ) (made : TreeMap) → (legal_in tree op ≡ Ok Legal) × (made ≡ changed tree op moment) → (tree_rules.legal (moment, op) tree ≡ true) × (made ≡ tree_rules.apply (moment, op) tree)
unfolding tree_rules
legal_is tree op moment made (is, same) = (ap is_legal is, same)

pub opened_is : (tree : TreeMap) (op : Op) (moment : ℕ) → legal_in tree op ≡ Ok Opened → tree_rules.legal (moment, op) tree ≡ false
unfolding tree_rules
opened_is tree op moment is = ap is_legal is

pub refused_is : (tree : TreeMap) (op : Op) (moment : ℕ) (why : Refusal) → legal_in tree op ≡ Err why → tree_rules.legal (moment, op) tree ≡ false
unfolding tree_rules
refused_is tree op moment why is = ap is_legal is

module _ (hive moment : ℕ) (op : Op) (rest : List Op) (tree : TreeMap) where
  abbrev behind : List TimedOp
  behind = on_hive hive (map (timed moment) rest)

  taken : hive_of op ≡ hive → replay tree_rules (on_hive hive (map (timed moment) (op ∷ rest))) tree ≡ replay tree_rules ((moment, op) ∷ behind) tree
  taken here = ap (λ (b : Bool). replay tree_rules (if b then (moment, op) ∷ behind else behind) tree) (eq-eqb (hive_of op) hive here)

  -- an operation on the hive that is legal, one that isn't, and one on another
  pub legal_here : (made : TreeMap) → hive_of op ≡ hive → tree_rules.legal (moment, op) tree ≡ true → made ≡ tree_rules.apply (moment, op) tree
      → replay tree_rules (on_hive hive (map (timed moment) (op ∷ rest))) tree ≡ replay tree_rules (on_hive hive (map (timed moment) rest)) made
  legal_here made here legal is = taken here ∙ ap (λ (b : Bool). if b then replay tree_rules behind (tree_rules.apply (moment, op) tree) else None) legal ∙ ap (replay tree_rules behind) (sym is)

  pub illegal_here : hive_of op ≡ hive → tree_rules.legal (moment, op) tree ≡ false → replay tree_rules (on_hive hive (map (timed moment) (op ∷ rest))) tree ≡ None
  illegal_here here illegal = taken here ∙ ap (λ (b : Bool). if b then replay tree_rules behind (tree_rules.apply (moment, op) tree) else None) illegal

  pub elsewhere : hive_of op ≢ hive → replay tree_rules (on_hive hive (map (timed moment) (op ∷ rest))) tree ≡ replay tree_rules (on_hive hive (map (timed moment) rest)) tree
  elsewhere other = ap (λ (b : Bool). replay tree_rules (if b then (moment, op) ∷ behind else behind) tree) (ne_eqb (hive_of op) hive other)

-- a prefix that isn't legal
pub nowhere_on : {T O : Type 0} (r : Rules T O) (xs ys : List O) (t : T) → replay r xs t ≡ None → replay r (xs ++ ys) t ≡ None
nowhere_on r [] ys t e = absurd cc
nowhere_on r (x ∷ xs) ys t e = by_test (r.legal x t) e (nowhere_on r xs ys (r.apply x t))
  where
    by_test : (b : Bool) → (if b then replay r xs (r.apply x t) else None) ≡ None → (replay r xs (r.apply x t) ≡ None → replay r (xs ++ ys) (r.apply x t) ≡ None) → (if b then replay r (xs ++ ys) (r.apply x t) else None) ≡ None
    by_test true e rest = rest e
    by_test false e rest = refl
