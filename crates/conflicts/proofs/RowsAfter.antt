-- What an operation that may be carried out changes of the rows of a tree, as far as the law of claims looks.
use Rattle.std.proofs.Common.{◌≡◌, ℕ, ◌-◌, ◌<◌, ◌≤◌, Bool, true, false, ◌&&◌, cond, List, [], length, take, Option, Some, None, IsSome, is_some, refl, sym, ◌∙◌, ap, subst, arith}
use Rattle.std.specs.Prelude.{nat_lt, slice_index_or}
use Rattle.std.specs.Ordering.{eq_by_cmp}
use Rattle.std.specs.Option.{option_map}
use Rattle.std.specs.FinMap as finite
use Rattle.std.specs.FinMap.{get-insert, get-remove}
use Rattle.std.proofs.lemmas.Bool.Decides.{nat_tests}
use Rattle.reg_names.specs.Names.{folded, folded_path}
use Rattle.reg_tree_parts.specs.declared.value.Value.{Value}
use Rattle.reg_tree_parts.specs.Orders.{name_order, path_order}
use Rattle.reg_tree_parts.specs.Rows.{Row}
use Rattle.reg_tree_parts.specs.NewRows.{new_row}
use Rattle.reg_tree_parts.specs.ValueEdits.{values_with, values_without}
use Rattle.reg_tree_parts.specs.Nodes.{begins_path, one_below}
use Rattle.reg_tree_parts.proofs.Keys.{names_total}
use Rattle.reg_tree.specs.Maps.{TreeMap, row, IsTree}
use Rattle.reg_tree.specs.Operations.{touched, depth_there, descriptor_of, row_created, row_deleted, row_edited}
use Rattle.reg_tree.proofs.Paths.{eq_is, split_begins}
use Rattle.conflicts.specs.TreeOutlines.{is_protected, has_value}
use Rattle.conflicts.proofs.KeyDepths.{gone_past, there_up_to, home_is_there}

pub touched_there : (m : ℕ) (o : Option Row) → is_some (option_map (touched m) o) ≡ is_some o
touched_there m None = refl
touched_there m (Some key) = refl

pub touched_protected : (m : ℕ) (o : Option Row) → is_protected (option_map (touched m) o) ≡ is_protected o
touched_protected m None = refl
touched_protected m (Some key) = refl

pub touched_value : (m : ℕ) (name : List ℕ) (o : Option Row) → has_value (option_map (touched m) o) name ≡ has_value o name
touched_value m name None = refl
touched_value m name (Some key) = refl

module _ (tree : TreeMap) (is : IsTree tree) where
  -- what a created key has none of, as a missing one, stays
  module _ (spelled : List (List ℕ)) (m : ℕ) (q : List (List ℕ)) where
    pub at_home : eq_by_cmp path_order q (take (depth_there tree (folded_path spelled)) (folded_path spelled)) ≡ true → IsSome (row tree q)
    at_home e = subst (λ x. IsSome (row tree x)) (sym (eq_is q (take (depth_there tree (folded_path spelled)) (folded_path spelled)) e)) (home_is_there tree is (folded_path spelled))

    pub fresh : begins_path q (folded_path spelled) ≡ true → nat_lt (depth_there tree (folded_path spelled)) (length q) ≡ true → row tree q ≡ None
    fresh on lt =
        let rest = split_begins q (folded_path spelled) on in
        let past : depth_there tree (folded_path spelled) < length q = grind (arith, nat_tests) in
        gone_past tree is q rest.0 (subst (λ p. depth_there tree p < length q) rest.1 past)

    old : begins_path q (folded_path spelled) ≡ true → nat_lt (depth_there tree (folded_path spelled)) (length q) ≡ false → IsSome (row tree q)
    old on ge =
        let rest = split_begins q (folded_path spelled) on in
        let le : length q ≤ depth_there tree (folded_path spelled) = grind (arith, nat_tests) in
        there_up_to tree is q rest.0 (subst (λ p. length q ≤ depth_there tree p) rest.1 le)

    abbrev made : Bool → Bool → Option Row
    made a b = cond a (option_map (touched m) (row tree q)) (cond b (Some (new_row (slice_index_or spelled (length q - 1) []) (descriptor_of (row tree (take (depth_there tree (folded_path spelled)) (folded_path spelled)))) m)) (row tree q))

    pub created_there : is_some (row_created tree spelled m q) ≡ cond (begins_path q (folded_path spelled)) true (is_some (row tree q))
    created_there = by_case (eq_by_cmp path_order q (take (depth_there tree (folded_path spelled)) (folded_path spelled))) (begins_path q (folded_path spelled)) (nat_lt (depth_there tree (folded_path spelled)) (length q)) at_home fresh old
      where
        by_case : (a b l : Bool) → (a ≡ true → IsSome (row tree q)) → (b ≡ true → l ≡ true → row tree q ≡ None) → (b ≡ true → l ≡ false → IsSome (row tree q)) → is_some (made a (b && l)) ≡ cond b true (is_some (row tree q))
        by_case true true l touched_path fresh old = touched_there m (row tree q) ∙ touched_path refl
        by_case true false l touched_path fresh old = touched_there m (row tree q)
        by_case false true true touched_path fresh old = refl
        by_case false true false touched_path fresh old = old refl refl
        by_case false false l touched_path fresh old = refl

    pub created_else : (f : Option Row → Bool) → ((o : Option Row) → f (option_map (touched m) o) ≡ f o) → ((name descriptor : List ℕ) → f (Some (new_row name descriptor m)) ≡ f None) → f (row_created tree spelled m q) ≡ f (row tree q)
    created_else f timeless none = by_case (eq_by_cmp path_order q (take (depth_there tree (folded_path spelled)) (folded_path spelled))) (begins_path q (folded_path spelled)) (nat_lt (depth_there tree (folded_path spelled)) (length q)) fresh
      where
        by_case : (a b l : Bool) → (b ≡ true → l ≡ true → row tree q ≡ None) → f (made a (b && l)) ≡ f (row tree q)
        by_case true b l fresh = timeless (row tree q)
        by_case false true true fresh = none _ _ ∙ ap f (sym (fresh refl refl))
        by_case false true false fresh = refl
        by_case false false l fresh = refl

  -- a deleted key has nothing any more, and all others what they had
  pub deleted_all : (p : List (List ℕ)) (m : ℕ) (q : List (List ℕ)) (f : Option Row → Bool) → ((o : Option Row) → f (option_map (touched m) o) ≡ f o) → f None ≡ false → f (row_deleted tree p m q) ≡ cond (eq_by_cmp path_order q p) false (f (row tree q))
  deleted_all p m q f timeless none = by_case (eq_by_cmp path_order q p) (one_below q p)
    where
      by_case : (a b : Bool) → f (cond a None (cond b (option_map (touched m) (row tree q)) (row tree q))) ≡ cond a false (f (row tree q))
      by_case true b = none
      by_case false true = timeless (row tree q)
      by_case false false = refl

  -- an edited key keeps all that the edit keeps
  pub edited_else : (edit : Row → Row) (p : List (List ℕ)) (m : ℕ) (q : List (List ℕ)) (f : Option Row → Bool) → ((o : Option Row) → f (option_map (λ key. touched m (edit key)) o) ≡ f o) → f (row_edited edit tree p m q) ≡ f (row tree q)
  edited_else edit p m q f keeps = by_case (eq_by_cmp path_order q p)
    where
      by_case : (a : Bool) → f (cond a (option_map (λ key. touched m (edit key)) (row tree q)) (row tree q)) ≡ f (row tree q)
      by_case true = keeps (row tree q)
      by_case false = refl

-- a value written is there, others as before; so with one deleted
module _ (name : List ℕ) where
  pub set_value_there : (m kind : ℕ) (bytes w : List ℕ) (key : Row) → has_value (option_map (λ k. touched m (record k { values = values_with k.values name kind bytes })) (Some key)) w ≡ cond (eq_by_cmp name_order w (folded name)) true (has_value (Some key) w)
  set_value_there m kind bytes w key = ap is_some (get-insert names_total key.values (folded name) _ w) ∙ by_case _ (eq_by_cmp name_order w (folded name))
    where
      by_case : (v : Value) (b : Bool) → is_some (cond b (Some v) (finite.get key.values w)) ≡ cond b true (is_some (finite.get key.values w))
      by_case v true = refl
      by_case v false = refl

  pub unset_value_there : (m : ℕ) (w : List ℕ) (key : Row) → has_value (option_map (λ k. touched m (record k { values = values_without k.values name })) (Some key)) w ≡ cond (eq_by_cmp name_order w (folded name)) false (has_value (Some key) w)
  unset_value_there m w key = ap is_some (get-remove names_total key.values (folded name) w) ∙ by_case (eq_by_cmp name_order w (folded name))
    where
      by_case : (b : Bool) → is_some (cond b None (finite.get key.values w)) ≡ cond b false (is_some (finite.get key.values w))
      by_case true = refl
      by_case false = refl

-- so of the rows of a tree, if the key is there
module _ (tree : TreeMap) (p : List (List ℕ)) (key : Row) (there : row tree p ≡ Some key) (name : List ℕ) (m : ℕ) (q : List (List ℕ)) (w : List ℕ) where
  pub set_rows : (kind : ℕ) (bytes : List ℕ) → has_value (row_edited (λ k. record k { values = values_with k.values name kind bytes }) tree p m q) w ≡ cond (cond (eq_by_cmp path_order q p) (eq_by_cmp name_order w (folded name)) false) true (has_value (row tree q) w)
  set_rows kind bytes = by_case (eq_by_cmp path_order q p) refl
    where
      by_case : (b : Bool) → eq_by_cmp path_order q p ≡ b → has_value (cond b (option_map (λ k. touched m (record k { values = values_with k.values name kind bytes })) (row tree q)) (row tree q)) w ≡ cond (cond b (eq_by_cmp name_order w (folded name)) false) true (has_value (row tree q) w)
      by_case true e =
          let here : row tree q ≡ Some key = ap (row tree) (eq_is q p e) ∙ there in
          subst (λ o. has_value (option_map (λ k. touched m (record k { values = values_with k.values name kind bytes })) o) w ≡ cond (eq_by_cmp name_order w (folded name)) true (has_value o w)) (sym here) (set_value_there name m kind bytes w key)
      by_case false e = refl

  pub unset_rows : has_value (row_edited (λ k. record k { values = values_without k.values name }) tree p m q) w ≡ cond (cond (eq_by_cmp path_order q p) (eq_by_cmp name_order w (folded name)) false) false (has_value (row tree q) w)
  unset_rows = by_case (eq_by_cmp path_order q p) refl
    where
      by_case : (b : Bool) → eq_by_cmp path_order q p ≡ b → has_value (cond b (option_map (λ k. touched m (record k { values = values_without k.values name })) (row tree q)) (row tree q)) w ≡ cond (cond b (eq_by_cmp name_order w (folded name)) false) false (has_value (row tree q) w)
      by_case true e =
          let here : row tree q ≡ Some key = ap (row tree) (eq_is q p e) ∙ there in
          subst (λ o. has_value (option_map (λ k. touched m (record k { values = values_without k.values name })) o) w ≡ cond (eq_by_cmp name_order w (folded name)) false (has_value o w)) (sym here) (unset_value_there name m w key)
      by_case false e = refl
