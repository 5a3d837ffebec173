-- Another tree of one hive, and operations on other hives.
use Rattle.std.proofs.Common.{◌≡◌, ◌≢◌, inl, inr, ℕ, zero, suc, ◌+◌, ◌<◌, ◌≤◌, ◌||◌, Bool, false, List, [], ◌∷◌, ◌++◌, map, length, Option, Some, None, Result, Ok, refl, sym, ◌∙◌, ap, subst, arith, slice_get, slice_set, slice_index_or}
use Rattle.std.proofs.Math.ListN.{get_or-map}
use Rattle.std.specs.List.{AllByRecursion}
use Rattle.std.proofs.lemmas.Bool.{cases_lt}
use Rattle.std.proofs.lemmas.List.{get_or-set_same, get_or-set_other, length-set, set-get_or, set_comm, map-set}
use Rattle.std.proofs.lemmas.List.Elements.{All-head, All-tail}
use Rattle.std.proofs.lemmas.Option.{slice_get_past, slice_get-get_or, slice_get_within}
use Rattle.std.proofs.lemmas.Grind.{take_at_read}
use Rattle.reg_tree.specs.Maps.{TreeMap, IsTree}
use Rattle.reg_tree.specs.Fresh.{fresh_tree}
use Rattle.reg_tree.specs.Operations.{hive_of}
use Rattle.reg_tree.specs.Judgement.{applied, applied_one, applied_if, changed, outweighs, outweighs_if, any_outweighs}
use Rattle.reg_tree.specs.Sequences.{AreTrees}
use Rattle.reg_tree.specs.Times.{SameButTimes, untimed}
use Rattle.reg_tree.specs.declared.op.Op.{Op}
use Rattle.reg_tree_parts.specs.declared.value.Value.{Value}
use Rattle.commit_outcomes.specs.Commits.{Commit}
use Rattle.commit_outcomes.specs.Trees.{root_values}
use Rattle.commit_outcomes.specs.Operations.{forget_op, values_recorded, surplus, outcome_ops}
use Rattle.conflicts.specs.TreeOutlines.{AreCarriedOut, judged_if}
use Rattle.std.specs.Option.{option_map}
use Rattle.store_model.specs.Invariant.{HivesAreNamable}
use Rattle.store_model.specs.Transactions.{Transaction, TxSlots, at}
use Rattle.transactions.specs.Entries.{IsMade, AreCarried, AreLight, AreKnown, IsViewNow, IsViewOf, IsViewed, IsRebasedTo, AreRebased, with_other_tree}
use Rattle.transactions.specs.declared.view.View.{View}
use Rattle.transactions.specs.declared.view.Known.{Known}
use Rattle.transactions.specs.declared.view.Known.TheVariants.{Nothing, Carried, Light}

-- One place of a list

pub get_same : {X : Type 0} (xs : List X) (i : ℕ) (x : X) → i < length xs → slice_get (slice_set xs i x) i ≡ Some x
get_same xs i x below = slice_get-get_or (slice_set xs i x) i x (omega (arith, below, length-set xs i x)) ∙ ap Some (get_or-set_same xs i x x below)

pub get_other : {X : Type 0} (xs : List X) (i j : ℕ) (x : X) → j ≢ i → slice_get (slice_set xs i x) j ≡ slice_get xs j
get_other xs i j x n = elim (cases_lt j (length xs)) [
  | inl below ↦ slice_get-get_or (slice_set xs i x) j x (omega (arith, below, length-set xs i x)) ∙ ap Some (get_or-set_other xs i j x x n) ∙ sym (slice_get-get_or xs j x below)
  | inr past ↦ slice_get_past (slice_set xs i x) j (omega (arith, past, length-set xs i x)) ∙ sym (slice_get_past xs j past)
]

pub take_one_more : {X : Type 0} (xs : List X) (i : ℕ) (x : X) → slice_get xs i ≡ Some x → i < length xs → lib.ListN.take (i + 1) xs ≡ lib.ListN.take i xs ++ x ∷ []
take_one_more xs i x e below =
    let same : slice_index_or xs i x ≡ x = cc (sym (slice_get-get_or xs i x below) ∙ e) in
    (take_at_read xs i x below).1 ∙ ap (λ y. lib.ListN.take i xs ++ y ∷ []) same

-- Operations on other hives

module _ (hive : ℕ) (tree : TreeMap) where
  one_other : (trees : List TreeMap) (op : Op) (moment : ℕ) → hive_of op < hive → applied_one (slice_set trees hive tree) op moment ≡ slice_set (applied_one trees op moment) hive tree
  one_other trees op moment below =
      let n : hive_of op ≢ hive = λ e. omega (arith, below, e) in
      ap (λ o. applied_if (slice_set trees hive tree) o op moment) (get_other trees hive (hive_of op) tree n) ∙ by_tree (slice_get trees (hive_of op)) n
    where
      by_tree : (o : Option TreeMap) → hive_of op ≢ hive → applied_if (slice_set trees hive tree) o op moment ≡ slice_set (applied_if trees o op moment) hive tree
      by_tree None n = refl
      by_tree (Some t) n = set_comm trees hive (hive_of op) tree (changed t op moment) (λ e. n (sym e))

  pub applied_other : (trees : List TreeMap) (ops : List Op) (moment : ℕ) → HivesAreNamable hive ops → applied (slice_set trees hive tree) ops moment ≡ slice_set (applied trees ops moment) hive tree
  applied_other trees [] moment below = refl
  applied_other trees (op ∷ ops) moment below =
      ap (λ ts. applied ts ops moment) (one_other trees op moment (All-head (λ o. hive_of o < hive) op ops below))
      ∙ applied_other (applied_one trees op moment) ops moment (All-tail (λ o. hive_of o < hive) op ops below)

  carried_other : (trees : List TreeMap) (ops : List Op) (moment : ℕ) → HivesAreNamable hive ops → AreCarriedOut trees ops moment → AreCarriedOut (slice_set trees hive tree) ops moment
  carried_other trees [] moment below carried = tt
  carried_other trees (op ∷ ops) moment below carried =
      let lt : hive_of op < hive = All-head (λ o. hive_of o < hive) op ops below in (
        ap (λ o. judged_if o op) (get_other trees hive (hive_of op) tree (λ e. omega (arith, lt, e))) ∙ carried.0,
        subst (λ ts. AreCarriedOut ts ops moment) (sym (one_other trees op moment lt)) (carried_other (applied_one trees op moment) ops moment (All-tail (λ o. hive_of o < hive) op ops below) carried.1),
      )

  light_other : (trees : List TreeMap) (ops : List Op) (moment : ℕ) → HivesAreNamable hive ops → any_outweighs (slice_set trees hive tree) ops moment ≡ any_outweighs trees ops moment
  light_other trees [] moment below = refl
  light_other trees (op ∷ ops) moment below =
      let lt : hive_of op < hive = All-head (λ o. hive_of o < hive) op ops below in
      ap (λ x. x || any_outweighs (applied_one (slice_set trees hive tree) op moment) ops moment) (ap (λ o. outweighs_if o op moment) (get_other trees hive (hive_of op) tree (λ e. omega (arith, lt, e))))
      ∙ ap (λ ts. outweighs trees op moment || any_outweighs ts ops moment) (one_other trees op moment lt)
      ∙ ap (λ x. outweighs trees op moment || x) (light_other (applied_one trees op moment) ops moment (All-tail (λ o. hive_of o < hive) op ops below))

  trees_other : (trees : List TreeMap) → IsTree tree → AreTrees trees → AreTrees (slice_set trees hive tree)
  trees_other trees is are h t there = elim (cases_lt h hive) [
    | inl less ↦ are h t (sym (get_other trees hive h tree (λ e. omega (arith, less, e))) ∙ there)
    | inr more ↦ elim (cases_lt hive h) [
      | inl less ↦ are h t (sym (get_other trees hive h tree (λ e. omega (arith, less, e))) ∙ there)
      | inr both ↦
          let same : h ≡ hive = omega (arith, more, both) in
          let below : hive < length trees = omega (arith, slice_get_within (slice_set trees hive tree) h t there, length-set trees hive tree, same) in
          let is_tree : tree ≡ t = cc (sym (get_same trees hive tree below) ∙ ap (slice_get (slice_set trees hive tree)) (sym same) ∙ there) in
          subst IsTree is_tree is
    ]
  ]

  -- A view

  pub view_other : (now : List TreeMap) (ops : List Op) (view : View) → IsTree tree → HivesAreNamable hive ops → IsViewNow now ops view → IsViewNow (slice_set now hive tree) ops (record view { trees = slice_set view.trees hive tree })
  view_other now ops view is below seen = record {
    made = by_moment view.moment seen.made;
    known = by_known view.known view.moment seen.known;
  }
    where
      by_moment : (moment : Option ℕ) → IsMade now ops moment view.trees → IsMade (slice_set now hive tree) ops moment (slice_set view.trees hive tree)
      by_moment (Some moment) made = ap (λ ts. slice_set ts hive tree) made ∙ sym (applied_other now ops moment below)
      by_moment None made =
          map-set untimed view.trees hive tree ∙ ap (λ l. slice_set l hive (untimed tree)) made ∙ sym (map-set untimed (applied now ops 0) hive tree)
          ∙ ap (λ ts. map untimed ts) (sym (applied_other now ops 0 below))

      carried : AreCarried now ops → AreCarried (slice_set now hive tree) ops
      carried k = record { are = trees_other now is k.are; carried = carried_other now ops 0 below k.carried }

      light : (moment : Option ℕ) → AreLight now ops moment → AreLight (slice_set now hive tree) ops moment
      light None l = tt
      light (Some moment) l = light_other now ops moment below ∙ l

      by_known : (known : Known) (moment : Option ℕ) → AreKnown now ops moment known → AreKnown (slice_set now hive tree) ops moment known
      by_known Nothing moment k = tt
      by_known Carried moment k = carried k
      by_known Light moment k = (carried k.0, light moment k.1)

  pub viewed_other : (now : List TreeMap) (number : ℕ) (ops : List Op) (view : View) → IsTree tree → HivesAreNamable hive ops → IsViewOf now number ops view → IsViewOf (slice_set now hive tree) number ops (record view { trees = slice_set view.trees hive tree })
  viewed_other now number ops view is below seen = record { known = seen.known; made = λ e. view_other now ops view is below (seen.made e) }

-- Views by their slots

rebased_other : (hive : ℕ) (tree : TreeMap) (now : List TreeMap) (number : ℕ) (one : Transaction) (view : Option View) → IsTree tree → HivesAreNamable hive one.ops → IsViewed now number one.ops view →
    IsViewed (slice_set now hive tree) number one.ops (option_map (with_other_tree hive tree) view)
rebased_other hive tree now number one None is below seen = tt
rebased_other hive tree now number one (Some view) is below seen = viewed_other hive tree now number one.ops view is below seen

-- the views of transactions that are on hives below one, with another tree of that hive
pub views_other : (hive : ℕ) (tree : TreeMap) (now : List TreeMap) (number : ℕ) (tx_slots : TxSlots) (views : List (Option View)) → IsTree tree → ((slot : ℕ) (one : Transaction) → at tx_slots slot ≡ Some one → HivesAreNamable hive one.ops) →
    AreRebased now number tx_slots views → AreRebased (slice_set now hive tree) number tx_slots (map (option_map (with_other_tree hive tree)) views)
views_other hive tree now number tx_slots views is below rebased slot =
    subst (IsRebasedTo (slice_set now hive tree) number (at tx_slots slot)) (sym (get_or-map (option_map (with_other_tree hive tree)) views slot None))
    (by_slot (at tx_slots slot) refl (rebased slot))
  where
    by_slot : (o : Option Transaction) → at tx_slots slot ≡ o → IsRebasedTo now number o (slice_index_or views slot None) → IsRebasedTo (slice_set now hive tree) number o (option_map (with_other_tree hive tree) (slice_index_or views slot None))
    by_slot None there seen = tt
    by_slot (Some one) there seen = rebased_other hive tree now number one (slice_index_or views slot None) is (below slot one there) seen

-- Operations on one hive

set_twice : {X : Type 0} (xs : List X) (i : ℕ) (x y : X) → slice_set (slice_set xs i x) i y ≡ slice_set xs i y
set_twice [] i x y = refl
set_twice (z ∷ xs) zero x y = refl
set_twice (z ∷ xs) (suc i) x y = ap (λ l. z ∷ l) (set_twice xs i x y)

set_to : (trees : List TreeMap) (hive : ℕ) (tree : TreeMap) → slice_set trees hive tree ≡ slice_set trees hive (slice_index_or (slice_set trees hive tree) hive fresh_tree)
set_to trees hive tree = sym (set-get_or (slice_set trees hive tree) hive fresh_tree) ∙ set_twice trees hive tree (slice_index_or (slice_set trees hive tree) hive fresh_tree)

one_on : (trees : List TreeMap) (hive : ℕ) (op : Op) (moment : ℕ) → hive_of op ≡ hive → applied_one trees op moment ≡ slice_set trees hive (slice_index_or (applied_one trees op moment) hive fresh_tree)
one_on trees hive op moment on = by_tree (slice_get trees (hive_of op))
  where
    by_tree : (o : Option TreeMap) → applied_if trees o op moment ≡ slice_set trees hive (slice_index_or (applied_if trees o op moment) hive fresh_tree)
    by_tree None = sym (set-get_or trees hive fresh_tree)
    by_tree (Some t) = subst (λ h. slice_set trees h (changed t op moment) ≡ slice_set trees hive (slice_index_or (slice_set trees h (changed t op moment)) hive fresh_tree)) (sym on) (set_to trees hive (changed t op moment))

-- they make another tree of that hive
pub all_on : (trees : List TreeMap) (hive : ℕ) (ops : List Op) (moment : ℕ) → AllByRecursion (λ op. hive_of op ≡ hive) ops → applied trees ops moment ≡ slice_set trees hive (slice_index_or (applied trees ops moment) hive fresh_tree)
all_on trees hive [] moment on = sym (set-get_or trees hive fresh_tree)
all_on trees hive (op ∷ ops) moment on =
    let last = applied (applied_one trees op moment) ops moment in
    let tree = slice_index_or last hive fresh_tree in
    all_on (applied_one trees op moment) hive ops moment on.1
    ∙ ap (λ ts. slice_set ts hive tree) (one_on trees hive op moment on.0)
    ∙ set_twice trees hive (slice_index_or (applied_one trees op moment) hive fresh_tree) tree

forget_on : (hive : ℕ) (values : List Value) → AllByRecursion (λ op. hive_of op ≡ hive) (map (λ (v : Value). forget_op hive v.name) values)
forget_on hive [] = tt
forget_on hive (v ∷ values) = (refl, forget_on hive values)

pub outcome_on : (hive : ℕ) (tree : TreeMap) (commit : Commit) → AllByRecursion (λ op. hive_of op ≡ hive) (outcome_ops hive tree commit)
outcome_on hive tree commit = (refl, forget_on hive (surplus (values_recorded (root_values tree) commit)))
