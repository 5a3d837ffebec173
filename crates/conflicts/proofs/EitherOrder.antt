-- A change after operations whose claims do not conflict with its own: the two may be carried out in either order, and
-- the time of a key that both write is the later one's moment.
use Rattle.std.proofs.Common.{◌≡◌, ◌⊎◌, inl, inr, ℕ, zero, suc, ◌-◌, ◌≤◌, Bool, true, false, ◌&&◌, cond, List, [], ◌∷◌, length, map, Option, Some, None, IsSome, is_some, Ok, refl, sym, ◌∙◌, ap, subst, arith}
use Rattle.std.specs.Prelude.{slice_get, slice_set, nat_lt, ⊤}
use Rattle.std.specs.List.{AllByRecursion}
use Rattle.std.specs.Option.{option_map, option_and_then}
use Rattle.std.specs.Ordering.{eq_by_cmp}
use Rattle.std.specs.FinMap.{same_map}
use Rattle.std.proofs.lemmas.Bool.{cases_eq, true≢false}
use Rattle.reg_names.specs.Names.{folded_path}
use Rattle.reg_tree_parts.specs.Orders.{path_order}
use Rattle.reg_tree_parts.specs.Rows.{Row}
use Rattle.reg_tree_parts.specs.Nodes.{begins_path}
use Rattle.reg_tree_parts.proofs.Keys.{paths_total, paths_apart}
use Rattle.reg_tree.specs.Maps.{TreeMap, row, missing, IsTree}
use Rattle.reg_tree.specs.Operations.{hive_of, touched, tree_after, depth_there}
use Rattle.reg_tree.specs.Judgement.{judged, changed_if, applied, applied_one, applied_if}
use Rattle.reg_tree.specs.Sequences.{AreTrees}
use Rattle.reg_tree.specs.TreeLists.{levels_in, levels_made}
use Rattle.reg_tree.specs.Stamps.{time_at, time_in, touched_path_of, stamped_at, stamped_if, stamped}
use Rattle.reg_tree.specs.Times.{timeless, untimed, SameButTimes}
use Rattle.reg_tree.specs.declared.op.Op.{Op}
use Rattle.reg_tree.specs.declared.op.Op.TheVariants.{CreateKey, DeleteKey, SetValue, DeleteValue}
use Rattle.reg_tree.specs.declared.op.Legality.TheVariants.{Legal}
use Rattle.reg_tree.proofs.OthersStay.{hives_stay, trees_stay_one}
use Rattle.reg_tree.proofs.TreesStay.{changed_stays}
use Rattle.reg_tree.proofs.Times.{applied_same, moments_alike, same_untimed}
use Rattle.reg_tree.proofs.Paths.{eq_is, eq_self, told as by_bool}
use Rattle.reg_tree.proofs.Stamps.{row-stamped}
use Rattle.conflicts.proofs.Tests.{never}
use Rattle.conflicts.specs.TreeOutlines.{judged_if, judged_in, AreCarriedOut, OpsDontConflict, MakesAlike, IsBeside}
use Rattle.conflicts.proofs.KeyDepths.{levels, depth_is}
use Rattle.conflicts.proofs.OnSkeletons.{Found, found, set_here}
use Rattle.conflicts.proofs.StaysLegal.{LawOfClaims, past_one, trees_stay}
use Rattle.conflicts.proofs.Effects.{Deed, its, done, FitsRow, makes, writes, Orders, twice, row_done, there_written, stays_written, done_at}
use Rattle.conflicts.proofs.TimesAsRead.{at_path, IsTold, AreTold, told}
use Rattle.conflicts.proofs.TouchedPaths.{levels_here, written_home}
use Rattle.conflicts.proofs.Commutes.{NoConflict, conflict_back, StaysAsLong, same_deed, either_tree, no_shorter, fits}

-- an operation that may be carried out puts its hive's tree after it
put : (trees : List TreeMap) (op : Op) (m : ℕ) (tree : TreeMap) → slice_get trees (hive_of op) ≡ Some tree → judged tree op ≡ Ok Legal → applied_one trees op m ≡ slice_set trees (hive_of op) (tree_after tree op m)
put trees op m tree at legal = ap (λ o. applied_if trees o op m) at ∙ ap (λ j. slice_set trees (hive_of op) (changed_if j (tree_after tree op m) tree)) legal

put_there : (trees : List TreeMap) (op : Op) (m : ℕ) (tree : TreeMap) → slice_get trees (hive_of op) ≡ Some tree → judged tree op ≡ Ok Legal → slice_get (applied_one trees op m) (hive_of op) ≡ Some (tree_after tree op m)
put_there trees op m tree at legal = ap (λ xs. slice_get xs (hive_of op)) (put trees op m tree at legal) ∙ set_here trees (hive_of op) (tree_after tree op m) tree at

judged_at : (trees : List TreeMap) (op : Op) (tree : TreeMap) → slice_get trees (hive_of op) ≡ Some tree → judged_in trees op ≡ Ok Legal → judged tree op ≡ Ok Legal
judged_at trees op tree at legal = sym (ap (λ o. judged_if o op) at) ∙ legal

after_stays : (tree : TreeMap) → IsTree tree → (op : Op) (m : ℕ) → judged tree op ≡ Ok Legal → IsTree (tree_after tree op m)
after_stays tree is op m legal = subst (λ j. IsTree (changed_if j (tree_after tree op m) tree)) legal (changed_stays tree is op m)

-- as many levels of a way are missing as names lead past its end
same_depth : (tree after : TreeMap) (path : List (List ℕ)) → length (missing after path) ≡ length (missing tree path) → depth_there after path ≡ depth_there tree path
same_depth tree after path e = ap (λ gone. length path - gone) e

stays_as_long : (trees others : List TreeMap) (op : Op) (tree after : TreeMap) → slice_get trees (hive_of op) ≡ Some tree → slice_get others (hive_of op) ≡ Some after → MakesAlike op others trees → StaysAsLong op tree after
stays_as_long trees others (CreateKey hive spelled) tree after at at' alike =
    let path = folded_path spelled in
    let tell : Option TreeMap → Option ℕ = λ o. option_map (λ t. length (missing t path)) o in
    let e : Some (length (missing after path)) ≡ Some (length (missing tree path)) = ap tell (sym at') ∙ alike ∙ ap tell at in
    same_depth tree after path cc
stays_as_long trees others (DeleteKey hive spelled) tree after at at' alike = tt
stays_as_long trees others (SetValue hive spelled name kind bytes) tree after at at' alike = tt
stays_as_long trees others (DeleteValue hive spelled name) tree after at at' alike = tt

-- Two operations on all hives

-- what a hive has of trees in two orders (`Orders`), by what an operation makes there
abbrev pub AreOrders : ℕ → (List (List ℕ) → Bool) → Option TreeMap → Option TreeMap → Option TreeMap → Option TreeMap → Type 0
AreOrders m new was seen left right =
    (option_map untimed left ≡ option_map untimed right) × ((q : List (List ℕ)) → Orders m (new q) (at_path was q) (at_path seen q) (at_path left q) (at_path right q))

-- the keys that an operation makes
abbrev pub makes_in : Option TreeMap → Op → List (List ℕ) → Bool
makes_in None op q = false
makes_in (Some tree) op q = makes (its tree op q)

-- rows in two orders are the same but for times
timeless_orders : (m : ℕ) (new : Bool) (was seen left right : Option Row) → Orders m new was seen left right → option_map timeless left ≡ option_map timeless right
timeless_orders m new was seen left right h = elim h [
  | inl s ↦ ap (option_map timeless) (sym s.0)
  | inr w ↦ sym (ap (option_map timeless) w.0 ∙ timeless_touched left)
]
  where
    timeless_touched : (o : Option Row) → option_map timeless (option_map (touched m) o) ≡ option_map timeless o
    timeless_touched None = refl
    timeless_touched (Some key) = refl

module _ (trees : List TreeMap) (are : AreTrees trees) (m n : ℕ) (a b : Op) (apart : NoConflict a b) (legal_a : judged_in trees a ≡ Ok Legal) (legal_b : judged_in trees b ≡ Ok Legal)
    (b_after : judged_in (applied_one trees a m) b ≡ Ok Legal) (a_after : judged_in (applied_one trees b n) a ≡ Ok Legal) (alike : MakesAlike b (applied_one trees a m) trees) where
  abbrev h : ℕ
  h = hive_of b

  on_b : Found trees b
  on_b = found trees b legal_b

  -- what the first makes leaves the second to make the same keys; and what both make in either order
  abbrev TwoWays : Type 0
  TwoWays =
      ((q : List (List ℕ)) → makes_in (slice_get (applied_one trees a m) h) b q ≡ makes_in (slice_get trees h) b q)
      × AreOrders m (makes_in (slice_get trees h) b) (slice_get trees h) (slice_get (applied_one trees a m) h) (slice_get (applied_one (applied_one trees a m) b n) h) (slice_get (applied_one (applied_one trees b n) a m) h)

  in_one_hive : hive_of a ≡ h → TwoWays
  in_one_hive e =
      let on_a : Found trees a = found trees a legal_a in
      let t : TreeMap = on_a.tree in
      let at_b : slice_get trees h ≡ Some t = ap (slice_get trees) (sym e) ∙ on_a.at in
      let is : IsTree t = are (hive_of a) t on_a.at in
      let judged_b : judged t b ≡ Ok Legal = judged_at trees b t at_b legal_b in
      let ta : TreeMap = tree_after t a m in
      let tb : TreeMap = tree_after t b n in
      let at_a : slice_get (applied_one trees a m) h ≡ Some ta = ap (slice_get (applied_one trees a m)) (sym e) ∙ put_there trees a m t on_a.at on_a.legal in
      let at_ab : slice_get (applied_one (applied_one trees a m) b n) h ≡ Some (tree_after ta b n) = put_there (applied_one trees a m) b n ta at_a (judged_at (applied_one trees a m) b ta at_a b_after) in
      let in_b : slice_get (applied_one trees b n) (hive_of a) ≡ Some tb = ap (slice_get (applied_one trees b n)) e ∙ put_there trees b n t at_b judged_b in
      let at_ba : slice_get (applied_one (applied_one trees b n) a m) h ≡ Some (tree_after tb a m) =
      ap (slice_get (applied_one (applied_one trees b n) a m)) (sym e) ∙ put_there (applied_one trees b n) a m tb in_b (judged_at (applied_one trees b n) a tb in_b a_after) in
      let after_a : IsTree ta = after_stays t is a m on_a.legal in
      let stays : StaysAsLong b t ta = stays_as_long trees (applied_one trees a m) b t ta at_b at_a alike in
      let orders = either_tree t is m n a b e apart on_a.legal judged_b after_a (after_stays t is b n judged_b) stays in (
        λ q. ap (λ o. makes_in o b q) at_a ∙ ap makes (same_deed t is m a on_a.legal after_a b e apart stays q) ∙ sym (ap (λ o. makes_in o b q) at_b),
        subst (λ was. AreOrders m (makes_in was b) was (slice_get (applied_one trees a m) h) (slice_get (applied_one (applied_one trees a m) b n) h) (slice_get (applied_one (applied_one trees b n) a m) h)) (sym at_b)
            (subst (λ seen. AreOrders m (makes_in (Some t) b) (Some t) seen (slice_get (applied_one (applied_one trees a m) b n) h) (slice_get (applied_one (applied_one trees b n) a m) h)) (sym at_a)
            (subst (λ left. AreOrders m (makes_in (Some t) b) (Some t) (Some ta) left (slice_get (applied_one (applied_one trees b n) a m) h)) (sym at_ab)
            (subst (AreOrders m (makes_in (Some t) b) (Some t) (Some ta) (Some (tree_after ta b n))) (sym at_ba)
            (ap Some (same_untimed (tree_after ta b n) (tree_after tb a m) (λ q. timeless_orders m (makes (its t b q)) (row t q) (row ta q) (row (tree_after ta b n) q) (row (tree_after tb a m) q) (orders q))), orders)))),
      )

  in_two_hives : (hive_of a ≡ h → ⊥) → TwoWays
  in_two_hives ne =
      let kept : slice_get (applied_one trees a m) h ≡ slice_get trees h = hives_stay trees a m h (λ same. ne (sym same)) in
      let at_a : slice_get (applied_one trees a m) h ≡ Some on_b.tree = kept ∙ on_b.at in
      let same : slice_get (applied_one (applied_one trees b n) a m) h ≡ slice_get (applied_one (applied_one trees a m) b n) h =
      hives_stay (applied_one trees b n) a m h (λ same. ne (sym same)) ∙ put_there trees b n on_b.tree on_b.at on_b.legal ∙ sym (put_there (applied_one trees a m) b n on_b.tree at_a on_b.legal) in
      (λ q. ap (λ o. makes_in o b q) kept, (ap (option_map untimed) (sym same), λ q. inl (ap (λ o. at_path o q) same, ap (λ o. at_path o q) kept)))

  two_ways : TwoWays
  two_ways = elim (cases_eq (hive_of a) h) [
    | inl e ↦ in_one_hive e
    | inr ne ↦ in_two_hives ne
  ]

-- How many levels a creation makes after operations

abbrev NoMore : Option ℕ → Option ℕ → Type 0
NoMore None None = ⊤
NoMore None (Some y) = ⊥
NoMore (Some x) None = ⊥
NoMore (Some x) (Some y) = x ≤ y

no_more_same : (x y : Option ℕ) → x ≡ y → NoMore x y
no_more_same None None e = tt
no_more_same None (Some y) e = cc
no_more_same (Some x) None e = cc
no_more_same (Some x) (Some y) e = let same : x ≡ y = cc in omega (arith, same)

no_more_more : (x y z : Option ℕ) → NoMore x y → NoMore y z → NoMore x z
no_more_more None None None a b = tt
no_more_more None None (Some z) a b = b
no_more_more None (Some y) z a b = absurd a
no_more_more (Some x) None z a b = absurd a
no_more_more (Some x) (Some y) None a b = b
no_more_more (Some x) (Some y) (Some z) a b = omega (arith, a, b)

no_more_both : (x y : Option ℕ) → NoMore x y → NoMore y x → x ≡ y
no_more_both None None a b = refl
no_more_both None (Some y) a b = absurd a
no_more_both (Some x) None a b = absurd a
no_more_both (Some x) (Some y) a b = ap Some (omega (arith, a, b))

levels_are : (tree : TreeMap) → IsTree tree → (path : List (List ℕ)) → length (missing tree path) ≡ length path - depth_there tree path
levels_are tree is path = levels tree is path ∙ ap (λ d. length path - d) (depth_is tree is path)

module _ (hive : ℕ) (spelled : List (List ℕ)) where
  abbrev made : List TreeMap → Option ℕ
  made trees = levels_in trees hive (folded_path spelled)

  -- an operation that does not conflict leaves no more to make
  one_no_more : (trees : List TreeMap) → AreTrees trees → (a : Op) (m : ℕ) → judged_in trees a ≡ Ok Legal → NoConflict a (CreateKey hive spelled) → NoMore (made (applied_one trees a m)) (made trees)
  one_no_more trees are a m legal apart = elim (cases_eq (hive_of a) hive) [
    | inl e ↦
        let on : Found trees a = found trees a legal in
        let path = folded_path spelled in
        let is : IsTree on.tree = are (hive_of a) on.tree on.at in
        let after_is : IsTree (tree_after on.tree a m) = after_stays on.tree is a m on.legal in
        let at : slice_get trees hive ≡ Some on.tree = ap (slice_get trees) (sym e) ∙ on.at in
        let at' : slice_get (applied_one trees a m) hive ≡ Some (tree_after on.tree a m) = ap (slice_get (applied_one trees a m)) (sym e) ∙ put_there trees a m on.tree on.at on.legal in
        let longer : depth_there on.tree path ≤ depth_there (tree_after on.tree a m) path = no_shorter on.tree is m a on.legal after_is hive spelled e apart in
        let fewer : length (missing (tree_after on.tree a m) path) ≤ length (missing on.tree path) = omega (arith, longer, levels_are on.tree is path, levels_are (tree_after on.tree a m) after_is path) in
        subst (λ o. NoMore (option_map (λ t. length (missing t path)) o) (made trees)) (sym at')
        (subst (λ o. NoMore (Some (length (missing (tree_after on.tree a m) path))) (option_map (λ t. length (missing t path)) o)) (sym at) fewer)
    | inr ne ↦ no_more_same (made (applied_one trees a m)) (made trees) (ap (option_map (λ t. length (missing t (folded_path spelled)))) (hives_stay trees a m hive (λ same. ne (sym same))))
  ]

  all_no_more : (trees : List TreeMap) → AreTrees trees → (ops : List Op) (m : ℕ) → AreCarriedOut trees ops m → AllByRecursion (λ a. NoConflict a (CreateKey hive spelled)) ops → NoMore (made (applied trees ops m)) (made trees)
  all_no_more trees are [] m carried apart = no_more_same (made trees) (made trees) refl
  all_no_more trees are (a ∷ ops) m carried apart =
      no_more_more (made (applied (applied_one trees a m) ops m)) (made (applied_one trees a m)) (made trees)
      (all_no_more (applied_one trees a m) (trees_stay_one trees a m are) ops m carried.1 apart.1)
      (one_no_more trees are a m carried.0 apart.0)

-- so it makes as many after the first of them as before and after all
alike_after : (b : Op) (trees : List TreeMap) → AreTrees trees → (a : Op) (ops : List Op) (m : ℕ) → judged_in trees a ≡ Ok Legal → AreCarriedOut (applied_one trees a m) ops m → NoConflict a b → AllByRecursion (λ c. NoConflict c b) ops → MakesAlike b (applied (applied_one trees a m) ops m) trees →
    MakesAlike b (applied_one trees a m) trees × MakesAlike b (applied (applied_one trees a m) ops m) (applied_one trees a m)
alike_after (CreateKey hive spelled) trees are a ops m legal carried apart others alike =
    let x : Option ℕ = made hive spelled trees in
    let y : Option ℕ = made hive spelled (applied_one trees a m) in
    let z : Option ℕ = made hive spelled (applied (applied_one trees a m) ops m) in
    let zy : NoMore z y = all_no_more hive spelled (applied_one trees a m) (trees_stay_one trees a m are) ops m carried others in
    let yx : NoMore y x = one_no_more hive spelled trees are a m legal apart in
    let xy : NoMore x y = no_more_more x z y (no_more_same x z (sym alike)) zy in
    let same : y ≡ x = no_more_both y x yx xy in
    (same, alike ∙ sym same)
alike_after (DeleteKey hive spelled) trees are a ops m legal carried apart others alike = (tt, tt)
alike_after (SetValue hive spelled name kind bytes) trees are a ops m legal carried apart others alike = (tt, tt)
alike_after (DeleteValue hive spelled name) trees are a ops m legal carried apart others alike = (tt, tt)

-- A change after operations

-- rows in two orders with one operation more before the change: what it makes of them with the change, what the others
-- make then, and what they make of both (`IsTold`)
past_more : (m : ℕ) (new : Bool) (was made seen left between x y right : Option Row) → Orders m new was made x y → Orders m new made seen left between → IsTold m m x y between right → Orders m new was seen left right
past_more m new was made seen left between x y right one rest told = elim one [
  | inl s ↦ elim rest [
    | inl r ↦ inl (
      elim told [
        | inl w ↦ w.2 ∙ sym w.1 ∙ r.0
        | inr k ↦ k.1 ∙ s.0 ∙ sym k.0 ∙ r.0
      ],
      r.1 ∙ s.1,
    )
    | inr r ↦ inr (
      elim told [
        | inl w ↦ w.2 ∙ sym w.1 ∙ r.0
        | inr k ↦ k.1 ∙ s.0 ∙ sym k.0 ∙ r.0
      ],
      r.1,
      r.2,
    )
  ]
  | inr s ↦ elim rest [
    | inl r ↦ inr (
      elim told [
        | inl w ↦ w.2 ∙ sym (twice m w.0) ∙ ap (option_map (touched m)) (sym w.1 ∙ r.0)
        | inr k ↦ k.1 ∙ s.0 ∙ ap (option_map (touched m)) (sym k.0 ∙ r.0)
      ],
      (s.1.0, r.1 ∙ s.1.1),
      s.2,
    )
    | inr r ↦ inr (
      elim told [
        | inl w ↦ w.2 ∙ sym w.1 ∙ r.0
        | inr k ↦ k.1 ∙ s.0 ∙ ap (option_map (touched m)) (sym k.0 ∙ r.0) ∙ twice m left
      ],
      r.1,
      r.2,
    )
  ]
]

-- a tree has the same rows as another one
same_tree : (o p : Option TreeMap) → option_map untimed o ≡ option_map untimed p → ((q : List (List ℕ)) → at_path o q ≡ at_path p q) → o ≡ p
same_tree None None same rows = refl
same_tree None (Some b) same rows = cc
same_tree (Some a) None same rows = cc
same_tree (Some a) (Some b) same rows = ap Some (same_map paths_total paths_apart a b rows)

same_lists : (xs ys : List TreeMap) → ((i : ℕ) → slice_get xs i ≡ slice_get ys i) → xs ≡ ys
same_lists [] [] same = refl
same_lists [] (y ∷ ys) same = let e = same 0 in cc
same_lists (x ∷ xs) [] same = let e = same 0 in cc
same_lists (x ∷ xs) (y ∷ ys) same =
    let e = same 0 in
    let here : x ≡ y = cc in
    ap (λ z. z ∷ xs) here ∙ ap (λ zs. y ∷ zs) (same_lists xs ys (λ i. same (suc i)))

-- the same operations on the same tree make the same of it
told_same : (m : ℕ) (was o p : Option TreeMap) → AreTold m m was was o p → o ≡ p
told_same m was o p told = same_tree o p told.0 (λ q. elim (told.1 q) [
  | inl w ↦ w.1 ∙ sym w.2
  | inr k ↦ k.0 ∙ sym k.1
])

module _ (the_law : LawOfClaims) where
  -- what a change's hive has, after operations and before them; and the change may be carried out after them
  past : (trees : List TreeMap) → AreTrees trees → (ops : List Op) (b : Op) (m n : ℕ) → AreCarriedOut trees ops m → judged_in trees b ≡ Ok Legal → AllByRecursion (λ a. NoConflict a b) ops → MakesAlike b (applied trees ops m) trees →
      (judged_in (applied trees ops m) b ≡ Ok Legal)
      × AreOrders m (makes_in (slice_get trees (hive_of b)) b) (slice_get trees (hive_of b)) (slice_get (applied trees ops m) (hive_of b)) (slice_get (applied_one (applied trees ops m) b n) (hive_of b)) (slice_get (applied (applied_one trees b n) ops m) (hive_of b))
  past trees are [] b m n carried legal apart alike = (legal, (refl, λ q. inl (refl, refl)))
  past trees are (a ∷ ops) b m n carried legal apart alike =
      let known = alike_after b trees are a ops m carried.0 carried.1 apart.0 apart.1 alike in
      let after_a : AreCarriedOut (applied_one trees a m) (b ∷ []) m = past_one the_law trees a (b ∷ []) m m are (apart.0, tt) (legal, tt) in
      let after_b : AreCarriedOut (applied_one trees b n) (a ∷ []) m = past_one the_law trees b (a ∷ []) m n are (conflict_back a b apart.0, tt) (carried.0, tt) in
      let one = two_ways trees are m n a b apart.0 carried.0 legal after_a.0 after_b.0 known.0 in
      let rest = past (applied_one trees a m) (trees_stay_one trees a m are) ops b m n carried.1 after_a.0 apart.1 known.1 in
      let both = told m m (applied_one (applied_one trees a m) b n) (applied_one (applied_one trees b n) a m) ops (hive_of b) one.1.0 in (
        rest.0,
        (
          rest.1.0 ∙ both.0,
          λ q. past_more m (makes_in (slice_get trees (hive_of b)) b q) _ _ _ _ _ _ _ _ (one.1.1 q)
              (subst (λ new. Orders m new (at_path (slice_get (applied_one trees a m) (hive_of b)) q) (at_path (slice_get (applied (applied_one trees a m) ops m) (hive_of b)) q) (at_path (slice_get (applied_one (applied (applied_one trees a m) ops m) b n) (hive_of b)) q) (at_path (slice_get (applied (applied_one (applied_one trees a m) b n) ops m) (hive_of b)) q)) (one.0 q) (rest.1.1 q))
              (both.1 q),
        ),
      )

  -- the operation between, without its neighbours
  one_apart : (ops : List Op) (b : Op) → OpsDontConflict ops (b ∷ []) → AllByRecursion (λ a. NoConflict a b) ops
  one_apart [] b apart = tt
  one_apart (a ∷ ops) b apart = (apart.0.0, one_apart ops b apart.1)

  module _ (trees : List TreeMap) (ops : List Op) (change : Op) (m n : ℕ) (beside : IsBeside trees ops change m) where
    abbrev after_ops : List TreeMap
    after_ops = applied trees ops m

    abbrev change_last : List TreeMap
    change_last = applied_one after_ops change n

    abbrev change_first : List TreeMap
    change_first = applied (applied_one trees change n) ops m

    abbrev its_hive : ℕ
    its_hive = hive_of change

    known : (judged_in after_ops change ≡ Ok Legal) × AreOrders m (makes_in (slice_get trees its_hive) change) (slice_get trees its_hive) (slice_get after_ops its_hive) (slice_get change_last its_hive) (slice_get change_first its_hive)
    known = past trees beside.are ops change m n beside.carried beside.legal (one_apart ops change beside.apart) beside.alike

    on : Found after_ops change
    on = found after_ops change known.0

    was : Found trees change
    was = found trees change beside.legal

    -- what the change does to a row after the operations
    abbrev y : List (List ℕ) → Deed
    y q = its on.tree change q

    is : IsTree on.tree
    is = trees_stay trees ops m beside.are its_hive on.tree on.at

    fits_seen : (q : List (List ℕ)) → FitsRow (y q) (row on.tree q)
    fits_seen = fits on.tree is change on.legal

    left_row : (q : List (List ℕ)) → at_path (slice_get change_last its_hive) q ≡ done n (y q) (row on.tree q)
    left_row q = ap (λ o. at_path o q) (put_there after_ops change n on.tree on.at on.legal) ∙ row_done on.tree change n q

    -- it makes there what it makes before them
    makes_same : (q : List (List ℕ)) → makes_in (slice_get trees its_hive) change q ≡ makes (y q)
    makes_same q = ap (λ o. makes_in o change q) was.at ∙ by_case change (stays_as_long trees after_ops change was.tree on.tree was.at on.at beside.alike)
      where
        by_case : (op : Op) → StaysAsLong op was.tree on.tree → makes (its was.tree op q) ≡ makes (its on.tree op q)
        by_case (CreateKey hive spelled) same = ap (λ d. begins_path q (folded_path spelled) && nat_lt d (length q)) (sym same)
        by_case (DeleteKey hive spelled) same = refl
        by_case (SetValue hive spelled name kind bytes) same = refl
        by_case (DeleteValue hive spelled name) same = refl

    orders : (q : List (List ℕ)) → Orders m (makes (y q)) (at_path (slice_get trees its_hive) q) (row on.tree q) (done n (y q) (row on.tree q)) (at_path (slice_get change_first its_hive) q)
    orders q =
        subst (λ new. Orders m new (at_path (slice_get trees its_hive) q) (row on.tree q) (done n (y q) (row on.tree q)) (at_path (slice_get change_first its_hive) q)) (makes_same q)
        (subst (λ o. Orders m (makes_in (slice_get trees its_hive) change q) (at_path (slice_get trees its_hive) q) o (done n (y q) (row on.tree q)) (at_path (slice_get change_first its_hive) q)) (ap (λ o. at_path o q) on.at)
        (subst (λ o. Orders m (makes_in (slice_get trees its_hive) change q) (at_path (slice_get trees its_hive) q) (at_path (slice_get after_ops its_hive) q) o (at_path (slice_get change_first its_hive) q)) (left_row q) (known.1.1 q)))

    -- other hives
    elsewhere : (hive : ℕ) → (hive ≡ its_hive → ⊥) → slice_get change_last hive ≡ slice_get change_first hive
    elsewhere hive ne =
        let kept : slice_get (applied_one trees change n) hive ≡ slice_get trees hive = hives_stay trees change n hive ne in
        hives_stay after_ops change n hive ne
        ∙ told_same m (slice_get trees hive) (slice_get after_ops hive) (slice_get change_first hive) (subst (λ o. AreTold m m (slice_get trees hive) o (slice_get after_ops hive) (slice_get change_first hive)) kept (told m m trees (applied_one trees change n) ops hive (ap (option_map untimed) (sym kept))))

    -- so all hives are the same, if each row of the change's is
    all_same : ((q : List (List ℕ)) → done n (y q) (row on.tree q) ≡ at_path (slice_get change_first its_hive) q) → change_last ≡ change_first
    all_same rows = same_lists change_last change_first (λ hive. elim (cases_eq hive its_hive) [
      | inl e ↦ subst (λ k. slice_get change_last k ≡ slice_get change_first k) (sym e) (same_tree (slice_get change_last its_hive) (slice_get change_first its_hive) known.1.0 (λ q. left_row q ∙ rows q))
      | inr ne ↦ elsewhere hive ne
    ])

    -- The times, if the change has a moment of its own: the key that it writes has the operations' moment, if they
    -- wrote it

    abbrev touched_path : List (List ℕ)
    touched_path = touched_path_of change (levels_made after_ops change)

    at_home : (q : List (List ℕ)) → writes (y q) ≡ true → q ≡ touched_path
    at_home q w = written_home on.tree change q w ∙ ap (touched_path_of change) (sym (levels_here after_ops change on.tree on.at))

    time_at_path : (o : Option TreeMap) (path : List (List ℕ)) → option_and_then (λ tree. time_at tree path) o ≡ option_map (λ (key : Row). key.time) (at_path o path)
    time_at_path None path = refl
    time_at_path (Some tree) path = refl

    time_here : (q : List (List ℕ)) → time_in after_ops its_hive q ≡ option_map (λ (key : Row). key.time) (row on.tree q)
    time_here q = ap (λ o. option_and_then (λ tree. time_at tree q) o) on.at

    -- if they didn't write it, nothing else is to be done
    pub unwritten : (time_in after_ops its_hive touched_path ≡ Some m → ⊥) → change_last ≡ change_first
    unwritten other = all_same (λ q. elim (orders q) [
      | inl s ↦ sym s.0
      | inr w ↦ elim (by_bool (writes (y q))) [
        | inl here ↦ absurd (other (ap (time_in after_ops its_hive) (sym (at_home q here)) ∙ time_here q ∙ time_of (row on.tree q) w.1.0 w.1.1 (there_written (y q) (row on.tree q) (fits_seen q) here)))
        | inr off ↦ sym (w.0 ∙ stays_written m n (y q) (row on.tree q) w.1.0 w.1.1 w.2 off)
      ]
    ])
      where
        time_of : (o key : Option Row) → o ≡ option_map (touched m) key → IsSome o → option_map (λ (key : Row). key.time) o ≡ Some m
        time_of o None e there = never (sym (ap is_some e) ∙ there)
        time_of o (Some key) e there = ap (option_map (λ (key : Row). key.time)) e

    -- if they did, and it had another time before, it has theirs
    pub written : time_in after_ops its_hive touched_path ≡ Some m → (time_in trees its_hive touched_path ≡ Some m → ⊥) → stamped change_last its_hive touched_path m ≡ change_first
    written mine other = same_lists (stamped change_last its_hive touched_path m) change_first (λ hive. elim (cases_eq hive its_hive) [
      | inl e ↦ subst (λ k. slice_get (stamped change_last its_hive touched_path m) k ≡ slice_get change_first k) (sym e)
          (stamped_here ∙ same_tree (Some (stamped_at after touched_path m)) (slice_get change_first its_hive) times rows)
      | inr ne ↦ ap (λ ts. slice_get ts hive) stamped_is ∙ set_other change_last its_hive hive (stamped_at after touched_path m) ne ∙ elsewhere hive ne
    ])
      where
        after : TreeMap
        after = tree_after on.tree change n

        at_left : slice_get change_last its_hive ≡ Some after
        at_left = put_there after_ops change n on.tree on.at on.legal

        stamped_is : stamped change_last its_hive touched_path m ≡ slice_set change_last its_hive (stamped_at after touched_path m)
        stamped_is = ap (λ o. stamped_if change_last o its_hive touched_path m) at_left

        stamped_here : slice_get (stamped change_last its_hive touched_path m) its_hive ≡ Some (stamped_at after touched_path m)
        stamped_here = ap (λ ts. slice_get ts its_hive) stamped_is ∙ set_here change_last its_hive (stamped_at after touched_path m) after at_left

        set_other : (xs : List TreeMap) (i k : ℕ) (x : TreeMap) → (k ≡ i → ⊥) → slice_get (slice_set xs i x) k ≡ slice_get xs k
        set_other [] i k x ne = refl
        set_other (z ∷ xs) zero zero x ne = absurd (ne refl)
        set_other (z ∷ xs) zero (suc k) x ne = refl
        set_other (z ∷ xs) (suc i) zero x ne = refl
        set_other (z ∷ xs) (suc i) (suc k) x ne = set_other xs i k x (λ same. ne (ap suc same))

        -- whether a row is the one that is written
        rows : (q : List (List ℕ)) → row (stamped_at after touched_path m) q ≡ at_path (slice_get change_first its_hive) q
        rows q = row-stamped after touched_path m q ∙ ap (λ o. cond (eq_by_cmp path_order q touched_path) (option_map (touched m) o) o) (row_done on.tree change n q) ∙ by_home (by_bool (eq_by_cmp path_order q touched_path))
          where
            by_home : (eq_by_cmp path_order q touched_path ≡ true) ⊎ (eq_by_cmp path_order q touched_path ≡ false) → cond (eq_by_cmp path_order q touched_path) (option_map (touched m) (done n (y q) (row on.tree q))) (done n (y q) (row on.tree q)) ≡ at_path (slice_get change_first its_hive) q
            by_home (inl e) = ap (λ b. cond b (option_map (touched m) (done n (y q) (row on.tree q))) (done n (y q) (row on.tree q))) e ∙ elim (orders q) [
              | inl s ↦ absurd (other (ap (time_in trees its_hive) (sym (eq_is q touched_path e)) ∙ time_at_path (slice_get trees its_hive) q ∙ ap (option_map (λ (key : Row). key.time)) (sym s.1) ∙ sym (time_here q) ∙ ap (time_in after_ops its_hive) (eq_is q touched_path e) ∙ mine))
              | inr w ↦ sym w.0
            ]
            by_home (inr ne) = ap (λ b. cond b (option_map (touched m) (done n (y q) (row on.tree q))) (done n (y q) (row on.tree q))) ne ∙ elim (orders q) [
              | inl s ↦ sym s.0
              | inr w ↦ sym (w.0 ∙ stays_written m n (y q) (row on.tree q) w.1.0 w.1.1 w.2 (off (by_bool (writes (y q)))))
            ]
              where
                off : (writes (y q) ≡ true) ⊎ (writes (y q) ≡ false) → writes (y q) ≡ false
                off (inl here) = absurd (true≢false (sym (ap (λ p. eq_by_cmp path_order p touched_path) (at_home q here) ∙ eq_self touched_path) ∙ ne))
                off (inr none) = none

        times : option_map untimed (Some (stamped_at after touched_path m)) ≡ option_map untimed (slice_get change_first its_hive)
        times = ap Some (same_untimed (stamped_at after touched_path m) after (λ q. ap (option_map timeless) (row-stamped after touched_path m q) ∙ blind (eq_by_cmp path_order q touched_path) (row after q))) ∙ sym (ap (option_map untimed) at_left) ∙ known.1.0
          where
            blind : (b : Bool) (o : Option Row) → option_map timeless (cond b (option_map (touched m) o) o) ≡ option_map timeless o
            blind true None = refl
            blind true (Some key) = refl
            blind false o = refl

    -- all at one moment
    pub at_once : m ≡ n → change_last ≡ change_first
    at_once same = all_same (λ q. elim (orders q) [
      | inl s ↦ sym s.0
      | inr w ↦ sym (w.0 ∙ ap (λ k. option_map (touched m) (done k (y q) (row on.tree q))) (sym same) ∙ done_at m (y q) (row on.tree q) w.1.0 w.1.1 w.2 ∙ ap (λ k. done k (y q) (row on.tree q)) same)
    ])

  pub at_one_moment : (trees : List TreeMap) (ops : List Op) (change : Op) (m : ℕ) → IsBeside trees ops change m → applied_one (applied trees ops m) change m ≡ applied (applied_one trees change m) ops m
  at_one_moment trees ops change m beside = at_once trees ops change m m beside refl

  pub but_for_times : (trees seen : List TreeMap) (ops : List Op) (change : Op) (m n k l : ℕ) → IsBeside trees ops change m → SameButTimes seen (applied trees ops m) → SameButTimes (applied_one seen change n) (applied (applied_one trees change k) ops l)
  but_for_times trees seen ops change m n k l beside same =
      applied_same seen (applied trees ops m) same (change ∷ []) n m
      ∙ ap (map untimed) (at_one_moment trees ops change m beside)
      ∙ applied_same (applied_one trees change m) (applied_one trees change k) (moments_alike trees (change ∷ []) m k) ops m l
