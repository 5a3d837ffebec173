-- An operation on the trees of all hives, by the index of its hive among them.
use Rattle.std.proofs.Common.{◌≡◌, ℕ, suc, ◌+◌, ◌<◌, ◌≤◌, Bool, true, false, ◌||◌, List, ◌∷◌, length, get_or, set, drop, Option, Some, None, Result, Ok, Err, refl, sym, ◌∙◌, ap, subst, arith}
use Rattle.std.specs.Prelude.{slice_get}
use Rattle.std.specs.Result.{is_err}
use Rattle.std.specs.Option.{option_map}
use Rattle.reg_names.specs.Names.{folded_path}
use Rattle.std.proofs.lemmas.Option.{slice_get_read, slice_get_past, slice_get_within}
use Rattle.std.proofs.lemmas.List.{length-set, drop_all}
use Rattle.std.proofs.Math.Seq.{drop-cons}
use Rattle.refusals.specs.declared.limits.TheConstants.{MOST_TREES}
use Rattle.reg_tree.specs.Maps.{TreeMap, weight, missing}
use Rattle.reg_tree.specs.Operations.{hive_of}
use Rattle.reg_tree.specs.Judgement.{changed, legal_in, legal_if, legal, legal_after, applied_if, applied_one, applied, outweighs_if, outweighs, any_outweighs}
use Rattle.reg_tree.specs.TreeLists.{levels_of, levels_made}
use Rattle.reg_tree.specs.declared.op.Op.{Op}
use Rattle.reg_tree.specs.declared.op.Op.TheVariants.{CreateKey, DeleteKey, SetValue, DeleteValue}
use Rattle.reg_tree.specs.declared.op.Legality.{Legality}
use Rattle.refusals.specs.declared.refusal.Refusal.{Refusal}
use Rattle.refusals.specs.declared.refusal.Refusal.TheVariants.{NotFound}
use Rattle.reg_tree.specs.declared.op.Legality.TheVariants.{Legal}

-- with another tree at an index there are as many
pub still_few : (hives : List TreeMap) (place : ℕ) (tree : TreeMap) → (1 ≤ length hives) × (length hives ≤ MOST_TREES) → (1 ≤ length (set hives place tree)) × (length (set hives place tree) ≤ MOST_TREES)
still_few hives place tree few = subst (λ n. (1 ≤ n) × (n ≤ MOST_TREES)) (sym (length-set hives place tree)) few

-- an operation's hive has this index among this many trees
pub record IsPlaced (trees hives : List TreeMap) (op : Op) (place count : ℕ) : Type 0 where
  pub view : hives ≡ trees
  pub is : place ≡ hive_of op
  pub counted : count ≡ length hives

module _ (trees hives : List TreeMap) (op : Op) (place count : ℕ) (placed : IsPlaced trees hives op place count) where
  -- if the hive is there, by the tree that is made of its own
  module _ (tree made : TreeMap) (moment : ℕ) (within : place < count) (read : tree ≡ get_or hives place tree) (makes : made ≡ changed tree op moment) where
    there : slice_get trees (hive_of op) ≡ Some tree
    there = subst (λ n. slice_get trees n ≡ Some tree) placed.is (subst (λ ts. slice_get ts place ≡ Some tree) placed.view (slice_get_read hives count place tree placed.counted within read))

    pub put_is : set hives place made ≡ applied_one trees op moment
    put_is = (λ i. set (placed.view i) (placed.is i) (makes i)) ∙ ap (λ o. applied_if trees o op moment) (sym there)

    pub weighs_is : (over b : Bool) → over ≡ is_err (legal_after op (Ok Legal) (weight made)) → over ≡ b → outweighs trees op moment ≡ b
    weighs_is over b weighs tested =
        ap (λ o. outweighs_if o op moment) there ∙ ap (λ left. is_err (legal_after op (Ok Legal) (weight left))) (sym makes) ∙ sym weighs ∙ tested

  -- if it isn't
  module _ (moment : ℕ) (past : count ≤ place) where
    gone : slice_get trees (hive_of op) ≡ None
    gone = subst (λ n. slice_get trees n ≡ None) placed.is (subst (λ ts. slice_get ts place ≡ None) placed.view (slice_get_past hives place (subst (λ n. n ≤ place) placed.counted past)))

    pub all_stay : trees ≡ applied_one trees op moment
    all_stay = ap (λ o. applied_if trees o op moment) (sym gone)

    pub none_weighs : outweighs trees op moment ≡ false
    none_weighs = ap (λ o. outweighs_if o op moment) gone

-- the tree that is looked up for an operation decides what is legal and what is made
module _ (trees : List TreeMap) (op : Op) (hive : ℕ) (is : hive ≡ hive_of op) where
  looked_up : (o : Option TreeMap) → o ≡ slice_get trees hive → slice_get trees (hive_of op) ≡ o
  looked_up o found = sym (found ∙ ap (slice_get trees) is)

  pub not_found : None ≡ slice_get trees hive → legal trees op ≡ Err NotFound
  not_found found = ap (λ o. legal_if o op) (looked_up None found)

  module _ (tree : TreeMap) (found : Some tree ≡ slice_get trees hive) where
    pub judged_so : (judgement : Result Legality Refusal) → legal_in tree op ≡ judgement → legal trees op ≡ judgement
    judged_so judgement told = ap (λ o. legal_if o op) (looked_up (Some tree) found) ∙ told

    counted_so : levels_made trees op ≡ levels_of tree op
    counted_so = by_op op is
      where
        by_op : (o : Op) → hive ≡ hive_of o → levels_made trees o ≡ levels_of tree o
        by_op (CreateKey at path) same = ap (option_map (λ t. length (missing t (folded_path path)))) (sym (found ∙ ap (slice_get trees) same))
        by_op (DeleteKey at path) same = refl
        by_op (SetValue at path name kind bytes) same = refl
        by_op (DeleteValue at path name) same = refl

    pub place_within : (place : ℕ) → place ≡ hive_of op → place < length trees
    place_within place same = slice_get_within trees place tree (ap (slice_get trees) same ∙ looked_up (Some tree) found)

    -- what is written there, with the trees in which it is put
    pub written_so : (made : TreeMap) (levels : Option ℕ) (place moment : ℕ) (new : List TreeMap) → (legal_in tree op ≡ Ok Legal) × (◌≡◌ {A = TreeMap × Option ℕ} (made, levels) (changed tree op moment, levels_of tree op)) → place ≡ hive_of op → new ≡ set trees place made
        → (legal trees op ≡ Ok Legal) × (◌≡◌ {A = List TreeMap × Option ℕ} (new, levels) (applied_one trees op moment, levels_made trees op))
    written_so made levels place moment new written same put =
        let all : new ≡ applied_one trees op moment = put ∙ (λ i. set trees (same i) (written.1 i).0) ∙ ap (λ o. applied_if trees o op moment) (sym (looked_up (Some tree) found)) in
        let count : levels ≡ levels_made trees op = ap (λ w. w.1) written.1 ∙ sym counted_so in
        (judged_so (Ok Legal) written.0, λ i. (all i, count i))

-- a turn of a loop over operations
module _ (ops : List Op) (index : ℕ) (op : Op) (within : index < length ops) (read : op ≡ get_or ops index op) where
  first_now : drop index ops ≡ op ∷ drop (index + 1) ops
  first_now =
      let on : suc index ≡ index + 1 = omega arith in
      drop-cons ops index op within ∙ (λ i. sym read i ∷ drop (on i) ops)

  module _ (trees made next : List TreeMap) (moment : ℕ) (before : applied made (drop index ops) moment ≡ applied trees ops moment) (is : next ≡ applied_one made op moment) where
    pub applied_on : applied next (drop (index + 1) ops) moment ≡ applied trees ops moment
    applied_on = ap (λ ts. applied ts (drop (index + 1) ops) moment) is ∙ sym (ap (λ os. applied made os moment) first_now) ∙ before

  module _ (trees made : List TreeMap) (moment : ℕ) (before : any_outweighs made (drop index ops) moment ≡ any_outweighs trees ops moment) where
    pub weighed_on : (next : List TreeMap) → next ≡ applied_one made op moment → outweighs made op moment ≡ false → any_outweighs next (drop (index + 1) ops) moment ≡ any_outweighs trees ops moment
    weighed_on next is light =
        ap (λ ts. any_outweighs ts (drop (index + 1) ops) moment) is ∙ sym (ap (λ b. b || any_outweighs (applied_one made op moment) (drop (index + 1) ops) moment) light)
        ∙ sym (ap (λ os. any_outweighs made os moment) first_now) ∙ before

    pub weighed_here : outweighs made op moment ≡ true → any_outweighs trees ops moment ≡ true
    weighed_here heavy =
        sym before ∙ ap (λ os. any_outweighs made os moment) first_now ∙ ap (λ b. b || any_outweighs (applied_one made op moment) (drop (index + 1) ops) moment) heavy

-- after its last turn
module _ (ops : List Op) (index : ℕ) (past : length ops ≤ index) (trees made : List TreeMap) (moment : ℕ) where
  pub all_applied : applied made (drop index ops) moment ≡ applied trees ops moment → made ≡ applied trees ops moment
  all_applied before = sym (ap (λ os. applied made os moment) (drop_all index ops past)) ∙ before

  pub none_weighed : any_outweighs made (drop index ops) moment ≡ any_outweighs trees ops moment → any_outweighs trees ops moment ≡ false
  none_weighed before = sym before ∙ ap (λ os. any_outweighs made os moment) (drop_all index ops past)
