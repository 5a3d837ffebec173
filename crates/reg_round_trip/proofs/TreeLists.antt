-- The trees of several new hives, made one after another.
use Rattle.std.proofs.Common.{◌≡◌, ℕ, ◌+◌, List, [], ◌∷◌, ◌++◌, map, length, Some, refl, sym, ◌∙◌, ap, subst, append_assoc}
use Rattle.std.specs.Prelude.{slice_get, slice_set, ⊤}
use Rattle.std.specs.List.{AllByRecursion, AllZip, flat_map}
use Rattle.std.specs.FinMap as finite
use Rattle.std.proofs.lemmas.List.{length-append}
use Rattle.reg_tree_parts.specs.declared.value.Value.{Value}
use Rattle.reg_tree.specs.Maps.{TreeMap}
use Rattle.reg_tree.specs.Fresh.{fresh_tree}
use Rattle.reg_tree.specs.Operations.{hive_of}
use Rattle.reg_tree.specs.Judgement.{changed, legal, legal_if, legal_in, applied, applied_if, applied_one}
use Rattle.reg_tree.specs.declared.op.Op.{Op}
use Rattle.reg_tree.proofs.OthersStay.{one_by_one}
use Rattle.store_model.specs.Invariant.{AreLegalChanges}
use Rattle.key_walk.specs.KeyRows.{NamedRow, tree_rows}
use Rattle.reg_round_trip.specs.Contents.{SameContent}
use Rattle.reg_round_trip.specs.Operations.{creation, value_op, key_ops, tree_ops, trees_ops, new_trees}
use Rattle.reg_round_trip.specs.NewTrees.{IsCallTree}
use Rattle.reg_round_trip.proofs.Units.{all_both, all_flat, all_of}
use Rattle.reg_round_trip.proofs.AddedOps.{AreAdded, added_both, added_legal, new_among}
use Rattle.reg_round_trip.proofs.ValueSteps.{LegalSteps}
use Rattle.reg_round_trip.proofs.TreeSteps.{tree_rebuilt}

-- a tree among others
get_among : (front : List TreeMap) (tree : TreeMap) (rest : List TreeMap) → slice_get (front ++ tree ∷ rest) (length front) ≡ Some tree
get_among [] tree rest = refl
get_among (t ∷ front) tree rest = get_among front tree rest

set_among : (front : List TreeMap) (tree new : TreeMap) (rest : List TreeMap) → slice_set (front ++ tree ∷ rest) (length front) new ≡ front ++ new ∷ rest
set_among [] tree new rest = refl
set_among (t ∷ front) tree new rest = ap (λ ts. t ∷ ts) (set_among front tree new rest)

-- operations on it
abbrev pub AreOf : ℕ → List Op → Type 0
AreOf hive ops = AllByRecursion (λ op. hive_of op ≡ hive) ops

module _ (front rest : List TreeMap) (moment : ℕ) where
  legal_is : (tree : TreeMap) (op : Op) → hive_of op ≡ length front → legal (front ++ tree ∷ rest) op ≡ legal_in tree op
  legal_is tree op is = ap (λ h. legal_if (slice_get (front ++ tree ∷ rest) h) op) is ∙ ap (λ o. legal_if o op) (get_among front tree rest)

  one_is : (tree : TreeMap) (op : Op) → hive_of op ≡ length front → applied_one (front ++ tree ∷ rest) op moment ≡ front ++ changed tree op moment ∷ rest
  one_is tree op is =
      ap (λ o. applied_if (front ++ tree ∷ rest) o op moment) (ap (slice_get (front ++ tree ∷ rest)) is ∙ get_among front tree rest)
      ∙ ap (λ h. slice_set (front ++ tree ∷ rest) h (changed tree op moment)) is ∙ set_among front tree (changed tree op moment) rest

  added_among : (tree : TreeMap) (ops : List Op) (new : TreeMap) → AreOf (length front) ops → LegalSteps moment tree ops new → AreAdded (front ++ tree ∷ rest) ops moment
  added_among tree [] new all steps = tt
  added_among tree (op ∷ ops) new all steps =
      let found = ap (slice_get (front ++ tree ∷ rest)) all.0 ∙ get_among front tree rest in
      ((legal_is tree op all.0 ∙ steps.0.0, new_among (front ++ tree ∷ rest) tree op found steps.0.1), subst (λ ts. AreAdded ts ops moment) (sym (one_is tree op all.0)) (added_among (changed tree op moment) ops new all.1 steps.1))

  applied_among : (tree : TreeMap) (ops : List Op) (new : TreeMap) → AreOf (length front) ops → LegalSteps moment tree ops new → applied (front ++ tree ∷ rest) ops moment ≡ front ++ new ∷ rest
  applied_among tree [] new all steps = ap (λ t. front ++ t ∷ rest) (sym steps)
  applied_among tree (op ∷ ops) new all steps = ap (λ ts. applied ts ops moment) (one_is tree op all.0) ∙ applied_among (changed tree op moment) ops new all.1 steps.1

-- the operations of a hive are on it
creation_of : (hive : ℕ) (names : List (List ℕ)) → AreOf hive (creation hive names)
creation_of hive [] = tt
creation_of hive (name ∷ names) = (refl, tt)

values_of : (hive : ℕ) (names : List (List ℕ)) (values : List Value) → AreOf hive (map (value_op hive names) values)
values_of hive names [] = tt
values_of hive names (value ∷ values) = (refl, values_of hive names values)

key_of : (hive : ℕ) (key : NamedRow) → AreOf hive (key_ops hive key)
key_of hive key = all_both (λ op. hive_of op ≡ hive) (creation hive key.0) (map (value_op hive key.0) (finite.values (let row = key.1 in row.values))) (creation_of hive key.0) (values_of hive key.0 (finite.values (let row = key.1 in row.values)))

pub keys_of : (hive : ℕ) (keys : List NamedRow) → AreOf hive (flat_map (key_ops hive) keys)
keys_of hive keys = all_flat (λ (key : NamedRow). ⊤) (λ op. hive_of op ≡ hive) (key_ops hive) (λ key t. key_of hive key) keys (all_of (λ (key : NamedRow). ⊤) (λ key. tt) keys)

tree_of : (hive : ℕ) (tree : TreeMap) → AreOf hive (tree_ops hive tree)
tree_of hive tree = keys_of hive (tree_rows tree)

-- all hives
pub record AllRebuilt (front trees : List TreeMap) (moment : ℕ) : Type 0 where
  pub news : List TreeMap
  pub added : AreAdded (front ++ new_trees trees) (trees_ops (length front) trees) moment
  pub applied_is : applied (front ++ new_trees trees) (trees_ops (length front) trees) moment ≡ front ++ news
  pub same : AllZip SameContent trees news

pub trees_rebuilt : (front trees : List TreeMap) (moment : ℕ) → AllByRecursion IsCallTree trees → AllRebuilt front trees moment
trees_rebuilt front [] moment all = record { news = []; added = tt; applied_is = refl; same = tt }
trees_rebuilt front (tree ∷ trees) moment all =
    let hive = length front in
    let one = tree_rebuilt tree hive moment all.0 in
    let here = added_among front (new_trees trees) moment fresh_tree (tree_ops hive tree) one.new (tree_of hive tree) one.steps in
    let after : applied (front ++ fresh_tree ∷ new_trees trees) (tree_ops hive tree) moment ≡ (front ++ one.new ∷ []) ++ new_trees trees =
    applied_among front (new_trees trees) moment fresh_tree (tree_ops hive tree) one.new (tree_of hive tree) one.steps ∙ sym (append_assoc front (one.new ∷ []) (new_trees trees)) in
    let long : length (front ++ one.new ∷ []) ≡ hive + 1 = length-append front (one.new ∷ []) in
    let others = trees_rebuilt (front ++ one.new ∷ []) trees moment all.1 in
    let later : AreAdded (applied (front ++ fresh_tree ∷ new_trees trees) (tree_ops hive tree) moment) (trees_ops (hive + 1) trees) moment =
    subst (λ ts. AreAdded ts (trees_ops (hive + 1) trees) moment) (sym after) (subst (λ h. AreAdded ((front ++ one.new ∷ []) ++ new_trees trees) (trees_ops h trees) moment) long others.added) in
    record {
      news = one.new ∷ others.news;
      added = added_both (front ++ fresh_tree ∷ new_trees trees) (tree_ops hive tree) (trees_ops (hive + 1) trees) moment here later;
      applied_is =
          one_by_one (front ++ fresh_tree ∷ new_trees trees) (tree_ops hive tree) (trees_ops (hive + 1) trees) moment ∙ ap (λ ts. applied ts (trees_ops (hive + 1) trees) moment) after
          ∙ ap (λ h. applied ((front ++ one.new ∷ []) ++ new_trees trees) (trees_ops h trees) moment) (sym long) ∙ others.applied_is ∙ append_assoc front (one.new ∷ []) others.news;
      same = (one.same, others.same);
    }

pub all_added : (trees : List TreeMap) (moment : ℕ) → AllByRecursion IsCallTree trees → AreAdded (new_trees trees) (trees_ops 0 trees) moment
all_added trees moment all = let made = trees_rebuilt [] trees moment all in made.added

pub all_legal : (trees : List TreeMap) (moment : ℕ) → AllByRecursion IsCallTree trees → AreLegalChanges (new_trees trees) (trees_ops 0 trees) moment
all_legal trees moment all = added_legal (new_trees trees) (trees_ops 0 trees) moment (all_added trees moment all)

pub all_same : (trees : List TreeMap) (moment : ℕ) → AllByRecursion IsCallTree trees → AllZip SameContent trees (applied (new_trees trees) (trees_ops 0 trees) moment)
all_same trees moment all = let made = trees_rebuilt [] trees moment all in subst (AllZip SameContent trees) (sym made.applied_is) made.same
