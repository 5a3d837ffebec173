-- Laws of operations: trees stay trees, rows and hives that an operation does not name stay, and no legal
-- operation takes a tree over the limit of weight.
use Rattle.std.proofs.Common.{◌≡◌, ℕ, zero, suc, ◌+◌, ◌-◌, ◌≤◌, Bool, true, false, ◌&&◌, cond, ◌⊎◌, inl, inr, List, [], ◌∷◌, ◌++◌, length, map, take, drop, sum_by, append-nil, Option, Some, None, IsOk, Result, Ok, Err, refl, sym, ◌∙◌, ap, subst, arith}
use Rattle.std.specs.Prelude.{nat_lt, slice_get, slice_set, slice_index_or, ◌≢◌}
use Rattle.std.specs.Option.{option_map}
use Rattle.std.specs.Ordering.{eq_by_cmp}
use Rattle.std.specs.FinMap as finite
use Rattle.std.specs.FinMap.{get-remove}
use Rattle.std.proofs.lemmas.Bool.Decides.{nat_tests}
use Rattle.std.proofs.lemmas.List.Sums.{sum_by-cons}
use Rattle.std.proofs.lemmas.List.{take-append-drop}
use mathlib.Core.Bool.{false≢true}
use Rattle.reg_names.specs.Names.{folded, folded_path}
use Rattle.refusals.specs.declared.refusal.Refusal.{Refusal}
use Rattle.refusals.specs.declared.refusal.Refusal.TheVariants.{TooLarge}
use Rattle.refusals.specs.declared.limits.TheConstants.{MOST_WEIGHT}
use Rattle.reg_tree_parts.specs.declared.value.Value.{Value}
use Rattle.reg_tree_parts.specs.Orders.{name_order, path_order}
use Rattle.reg_tree_parts.specs.Weights.{value_weight}
use Rattle.reg_tree_parts.specs.Rows.{Row, ValueMap, row_weight}
use Rattle.reg_tree_parts.specs.NewRows.{new_row}
use Rattle.reg_tree_parts.specs.ValueEdits.{values_with, values_without}
use Rattle.reg_tree_parts.specs.Nodes.{begins_path, one_below}
use Rattle.reg_tree_parts.proofs.Keys.{names_total, names_apart, paths_total, paths_apart}
use Rattle.reg_tree.specs.Maps.{TreeMap, row, weight, IsTree}
use Rattle.reg_tree.specs.Operations.{hive_of, spelled_path, touched, depth_there, descriptor_of, row_after, tree_after}
use Rattle.reg_tree.specs.Judgement.{judged, changed, changed_if, weighed, legal_after, legal_in, legal_if, applied, applied_if, applied_one}
use Rattle.reg_tree.specs.Sequences.{AreTrees, AreWithin, AreLegal, AreLegalElements, after_elements}
use Rattle.reg_tree.specs.declared.op.Op.{Op}
use Rattle.reg_tree.specs.declared.op.Op.TheVariants.{CreateKey, DeleteKey, SetValue, DeleteValue}
use Rattle.reg_tree.specs.declared.op.Legality.{Legality}
use Rattle.reg_tree.specs.declared.op.Legality.TheVariants.{Legal, Opened}
use Rattle.reg_tree.specs.declared.element.Element.{Element}
use Rattle.reg_tree.proofs.Paths.{told, eq_is, begins-append, split_below}
use Rattle.reg_tree.proofs.TreesAfter.{row-tree_after}
use Rattle.reg_tree.proofs.TreesStay.{changed_stays}
use Rattle.reg_tree.proofs.Sums.{of_option, less_in_all}
use Rattle.reg_tree.proofs.Times.{weight_same, tree_after_same}

-- Trees of all hives

-- what was set at an index is found there, and elsewhere what was there
set_found : {A : Type 0} (xs : List A) (i j : ℕ) (x y : A) → slice_get (slice_set xs i x) j ≡ Some y → (x ≡ y) ⊎ (slice_get xs j ≡ Some y)
set_found [] i j x y e = cc
set_found (z ∷ xs) zero zero x y e = inl cc
set_found (z ∷ xs) zero (suc j) x y e = inr e
set_found (z ∷ xs) (suc i) zero x y e = inr e
set_found (z ∷ xs) (suc i) (suc j) x y e = set_found xs i j x y e

set_elsewhere : {A : Type 0} (xs : List A) (i j : ℕ) (x : A) → j ≢ i → slice_get (slice_set xs i x) j ≡ slice_get xs j
set_elsewhere [] i j x apart = refl
set_elsewhere (z ∷ xs) zero zero x apart = absurd (apart refl)
set_elsewhere (z ∷ xs) zero (suc j) x apart = refl
set_elsewhere (z ∷ xs) (suc i) zero x apart = refl
set_elsewhere (z ∷ xs) (suc i) (suc j) x apart = set_elsewhere xs i j x (λ same. apart (ap suc same))

-- what an operation keeps of the tree it changes, and so of all
kept_by : (P : TreeMap → Type 0) (trees : List TreeMap) (op : Op) (moment : ℕ) → ((hive : ℕ) (tree : TreeMap) → slice_get trees hive ≡ Some tree → P tree)
    → ((tree : TreeMap) → slice_get trees (hive_of op) ≡ Some tree → P (changed tree op moment))
    → (hive : ℕ) (tree : TreeMap) → slice_get (applied_one trees op moment) hive ≡ Some tree → P tree
kept_by P trees op moment all one hive tree e = by_case (slice_get trees (hive_of op)) refl e
  where
    by_case : (o : Option TreeMap) → slice_get trees (hive_of op) ≡ o → slice_get (applied_if trees o op moment) hive ≡ Some tree → P tree
    by_case None t e = all hive tree e
    by_case (Some old) t e = by_place (set_found trees (hive_of op) hive (changed old op moment) tree e)
      where
        by_place : (changed old op moment ≡ tree) ⊎ (slice_get trees hive ≡ Some tree) → P tree
        by_place (inl same) = subst P same (one old t)
        by_place (inr there) = all hive tree there

-- trees stay trees
pub trees_stay_one : (trees : List TreeMap) (op : Op) (moment : ℕ) → AreTrees trees → AreTrees (applied_one trees op moment)
trees_stay_one trees op moment are = kept_by IsTree trees op moment are (λ tree t. changed_stays tree (are (hive_of op) tree t) op moment)

pub trees_stay : (trees : List TreeMap) (ops : List Op) (moment : ℕ) → AreTrees trees → AreTrees (applied trees ops moment)
trees_stay trees [] moment are = are
trees_stay trees (op ∷ ops) moment are = trees_stay (applied_one trees op moment) ops moment (trees_stay_one trees op moment are)

pub trees_stay_all : (trees : List TreeMap) (elements : List Element) → AreTrees trees → AreTrees (after_elements trees elements)
trees_stay_all trees [] are = are
trees_stay_all trees (element ∷ elements) are = trees_stay_all (applied trees element.ops element.moment) elements (trees_stay trees element.ops element.moment are)

-- the trees of other hives stay
pub hives_stay : (trees : List TreeMap) (op : Op) (moment hive : ℕ) → hive ≢ hive_of op → slice_get (applied_one trees op moment) hive ≡ slice_get trees hive
hives_stay trees op moment hive apart = by_case (slice_get trees (hive_of op))
  where
    by_case : (o : Option TreeMap) → slice_get (applied_if trees o op moment) hive ≡ slice_get trees hive
    by_case None = refl
    by_case (Some tree) = set_elsewhere trees (hive_of op) hive (changed tree op moment) apart

-- operations after others at the same moment make what they all make together
pub one_by_one : (trees : List TreeMap) (ops others : List Op) (moment : ℕ) → applied trees (ops ++ others) moment ≡ applied (applied trees ops moment) others moment
one_by_one trees [] others moment = refl
one_by_one trees (op ∷ ops) others moment = one_by_one (applied_one trees op moment) ops others moment

-- Rows of one tree

-- a path that begins none of those an operation names is none of them
not_same : (p q : List (List ℕ)) → begins_path q p ≡ false → eq_by_cmp path_order q p ≡ false
not_same p q off = elim (told (eq_by_cmp path_order q p)) [
  | inl same ↦ absurd (false≢true (sym off ∙ ap (begins_path q) (sym (eq_is q p same)) ∙ ap (begins_path q) (sym (append-nil q)) ∙ begins-append q []))
  | inr apart ↦ apart
]

not_front : (p q : List (List ℕ)) (n : ℕ) → begins_path q p ≡ false → eq_by_cmp path_order q (take n p) ≡ false
not_front p q n off = elim (told (eq_by_cmp path_order q (take n p))) [
  | inl same ↦ absurd (false≢true (sym off ∙ ap (λ x. begins_path x p) (eq_is q (take n p) same) ∙ front_begins n p))
  | inr apart ↦ apart
]
  where
    front_begins : (n : ℕ) (p : List (List ℕ)) → begins_path (take n p) p ≡ true
    front_begins n p = ap (begins_path (take n p)) (sym (take-append-drop n p)) ∙ begins-append (take n p) (drop n p)

not_parent : (p q : List (List ℕ)) → begins_path q p ≡ false → one_below q p ≡ false
not_parent p q off = elim (told (one_below q p)) [
  | inl below ↦
      let split = split_below q p below in
      absurd (false≢true (sym off ∙ ap (begins_path q) split.1 ∙ begins-append q (split.0 ∷ [])))
  | inr apart ↦ apart
]

-- a row whose path does not begin that of an operation stays
rows_stay_after : (tree : TreeMap) (op : Op) (moment : ℕ) (q : List (List ℕ)) → begins_path q (folded_path (spelled_path op)) ≡ false → row_after tree op moment q ≡ row tree q
rows_stay_after tree (CreateKey hive spelled) moment q off =
    ap (λ b. cond b (option_map (touched moment) (row tree q)) (cond (begins_path q (folded_path spelled) && nat_lt (depth_there tree (folded_path spelled)) (length q)) (Some (new_row (slice_index_or spelled (length q - 1) []) (descriptor_of (row tree (take (depth_there tree (folded_path spelled)) (folded_path spelled)))) moment)) (row tree q))) (not_front (folded_path spelled) q (depth_there tree (folded_path spelled)) off)
    ∙ ap (λ b. cond (b && nat_lt (depth_there tree (folded_path spelled)) (length q)) (Some (new_row (slice_index_or spelled (length q - 1) []) (descriptor_of (row tree (take (depth_there tree (folded_path spelled)) (folded_path spelled)))) moment)) (row tree q)) off
rows_stay_after tree (DeleteKey hive spelled) moment q off =
    ap (λ b. cond b None (cond (one_below q (folded_path spelled)) (option_map (touched moment) (row tree q)) (row tree q))) (not_same (folded_path spelled) q off)
    ∙ ap (λ b. cond b (option_map (touched moment) (row tree q)) (row tree q)) (not_parent (folded_path spelled) q off)
rows_stay_after tree (SetValue hive spelled name kind bytes) moment q off = ap (λ b. cond b (option_map (λ key. touched moment (record key { values = values_with key.values name kind bytes })) (row tree q)) (row tree q)) (not_same (folded_path spelled) q off)
rows_stay_after tree (DeleteValue hive spelled name) moment q off = ap (λ b. cond b (option_map (λ key. touched moment (record key { values = values_without key.values name })) (row tree q)) (row tree q)) (not_same (folded_path spelled) q off)

pub rows_stay : (tree : TreeMap) → IsTree tree → (op : Op) (moment : ℕ) (q : List (List ℕ)) → begins_path q (folded_path (spelled_path op)) ≡ false → row (changed tree op moment) q ≡ row tree q
rows_stay tree is op moment q off = by_case (judged tree op)
  where
    by_case : (j : Result Legality Refusal) → row (changed_if j (tree_after tree op moment) tree) q ≡ row tree q
    by_case (Ok Legal) = row-tree_after tree op moment q ∙ rows_stay_after tree op moment q off
    by_case (Ok Opened) = refl
    by_case (Err refusal) = refl

-- Weights

-- the moment of a row weighs nothing
touched_same : (m : ℕ) (o : Option Row) → of_option row_weight (option_map (touched m) o) ≡ of_option row_weight o
touched_same m None = refl
touched_same m (Some key) = refl

deleted_less : (m : ℕ) (a b : Bool) (o : Option Row) → of_option row_weight (cond a None (cond b (option_map (touched m) o) o)) ≤ of_option row_weight o
deleted_less m true b o = omega arith
deleted_less m false true o = omega (arith, touched_same m o)
deleted_less m false false o = omega arith

-- values without one weigh no more
values_sum : (es : List (List ℕ × Value)) → sum_by value_weight (map (λ e. e.1) es) ≡ sum_by (λ e. value_weight e.1) es
values_sum [] = refl
values_sum (e ∷ es) = sum_by-cons value_weight e.1 (map (λ e. e.1) es) ∙ ap (λ w. value_weight e.1 + w) (values_sum es) ∙ sym (sum_by-cons (λ e. value_weight e.1) e es)

without_less : (values : ValueMap) (name : List ℕ) → sum_by value_weight (finite.values (values_without values name)) ≤ sum_by value_weight (finite.values values)
without_less values name =
    let less = less_in_all names_total value_weight names_apart (values_without values name) values (λ q. subst (λ o. of_option value_weight o ≤ of_option value_weight (finite.get values q)) (sym (get-remove names_total values (folded name) q)) (by_case (eq_by_cmp name_order q (folded name)) (finite.get values q))) in
    omega (arith, less, values_sum (finite.entries values), values_sum (finite.entries (values_without values name)))
  where
    by_case : (b : Bool) (o : Option Value) → of_option value_weight (cond b None o) ≤ of_option value_weight o
    by_case true o = omega arith
    by_case false o = omega arith

unset_less : (name : List ℕ) (m : ℕ) (b : Bool) (o : Option Row) → of_option row_weight (cond b (option_map (λ key. touched m (record key { values = values_without key.values name })) o) o) ≤ of_option row_weight o
unset_less name m true None = omega arith
unset_less name m true (Some key) = omega (arith, without_less key.values name)
unset_less name m false o = omega arith

-- so trees at two moments weigh the same, and deletions make a tree no heavier
module _ (tree : TreeMap) (is : IsTree tree) where
  by_rows : (op : Op) (m : ℕ) (other : TreeMap) → ((q : List (List ℕ)) → of_option row_weight (row_after tree op m q) ≤ of_option row_weight (row other q)) → weight (tree_after tree op m) ≤ weight other
  by_rows op m other less = less_in_all paths_total row_weight paths_apart (tree_after tree op m) other (λ q. subst (λ o. of_option row_weight o ≤ of_option row_weight (row other q)) (sym (row-tree_after tree op m q)) (less q))

  any_moment : (op : Op) (m n : ℕ) → weight (tree_after tree op m) ≡ weight (tree_after tree op n)
  any_moment op m n = weight_same (tree_after tree op m) (tree_after tree op n) (tree_after_same tree tree refl op m n)

  deleted_no_heavier : (hive : ℕ) (spelled : List (List ℕ)) (m : ℕ) → weight (tree_after tree (DeleteKey hive spelled) m) ≤ weight tree
  deleted_no_heavier hive spelled m = by_rows (DeleteKey hive spelled) m tree (λ q. deleted_less m (eq_by_cmp path_order q (folded_path spelled)) (one_below q (folded_path spelled)) (row tree q))

  unset_no_heavier : (hive : ℕ) (spelled : List (List ℕ)) (name : List ℕ) (m : ℕ) → weight (tree_after tree (DeleteValue hive spelled name) m) ≤ weight tree
  unset_no_heavier hive spelled name m = by_rows (DeleteValue hive spelled name) m tree (λ q. unset_less name m (eq_by_cmp path_order q (folded_path spelled)) (row tree q))

  -- what was weighed is within the limit
  within_limit : (total : ℕ) → IsOk (weighed total) → total ≤ MOST_WEIGHT
  within_limit total ok = by_case (nat_lt MOST_WEIGHT total) refl ok
    where
      by_case : (b : Bool) → nat_lt MOST_WEIGHT total ≡ b → IsOk (cond {A = Result Legality Refusal} b (Err TooLarge) (Ok Legal)) → total ≤ MOST_WEIGHT
      by_case true t ok = cc
      by_case false t ok = grind (arith, nat_tests)

  pub weight_stays_one : (op : Op) (moment : ℕ) → weight tree ≤ MOST_WEIGHT → IsOk (legal_in tree op) → weight (changed tree op moment) ≤ MOST_WEIGHT
  weight_stays_one op moment light ok = by_case op (judged tree op) light ok
    where
      by_case : (op : Op) (j : Result Legality Refusal) → weight tree ≤ MOST_WEIGHT → IsOk (legal_after op j (weight (changed_if j (tree_after tree op 0) tree))) → weight (changed_if j (tree_after tree op moment) tree) ≤ MOST_WEIGHT
      by_case op (Err refusal) light ok = light
      by_case op (Ok Opened) light ok = light
      by_case (CreateKey hive path) (Ok Legal) light ok = omega (arith, any_moment (CreateKey hive path) moment 0, within_limit (weight (tree_after tree (CreateKey hive path) 0)) ok)
      by_case (DeleteKey hive path) (Ok Legal) light ok = omega (arith, light, deleted_no_heavier hive path moment)
      by_case (SetValue hive path name kind bytes) (Ok Legal) light ok = omega (arith, any_moment (SetValue hive path name kind bytes) moment 0, within_limit (weight (tree_after tree (SetValue hive path name kind bytes) 0)) ok)
      by_case (DeleteValue hive path name) (Ok Legal) light ok = omega (arith, light, unset_no_heavier hive path name moment)

-- and so of all hives
pub weights_stay : (trees : List TreeMap) (ops : List Op) (moment : ℕ) → AreTrees trees → AreWithin trees → AreLegal trees ops moment → AreWithin (applied trees ops moment)
weights_stay trees [] moment are within legals = within
weights_stay trees (op ∷ ops) moment are within legals =
    weights_stay (applied_one trees op moment) ops moment (trees_stay_one trees op moment are) (kept_by (λ tree. weight tree ≤ MOST_WEIGHT) trees op moment within one) legals.1
  where
    one : (tree : TreeMap) → slice_get trees (hive_of op) ≡ Some tree → weight (changed tree op moment) ≤ MOST_WEIGHT
    one tree t = weight_stays_one tree (are (hive_of op) tree t) op moment (within (hive_of op) tree t) (subst (λ o. IsOk (legal_if o op)) t legals.0)

pub weights_stay_all : (trees : List TreeMap) (elements : List Element) → AreTrees trees → AreWithin trees → AreLegalElements trees elements → AreWithin (after_elements trees elements)
weights_stay_all trees [] are within legals = within
weights_stay_all trees (element ∷ elements) are within legals =
    weights_stay_all (applied trees element.ops element.moment) elements (trees_stay trees element.ops element.moment are) (weights_stay trees element.ops element.moment are within legals.0) legals.1
