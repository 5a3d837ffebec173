-- What a list of shared values in order says of the map that it models.
use Rattle.std.proofs.Common.{◌≡◌, ℕ, zero, suc, ◌+◌, ◌≤◌, [], ◌∷◌, arith, sum_by, Bool, true, false, not, cond, T, List, length, map, Option, None, Some, slice_get, refl, sym, ◌∙◌, ap, subst}
use Rattle.std.specs.FinMap as finite
use Rattle.std.specs.FinMap.{entries-from_sorted, len-entries, get-from_sorted, same_entries_map, entries-insert, get-remove, same_map}
use Rattle.std.specs.FinMap.Entries.{is_sorted, find, put, where_key, is_sorted-put, is_sorted-where_key, find-where_key}
use Rattle.std.specs.Ordering.{eq_by_cmp, is_eq}
use Rattle.std.specs.Cmp.{alike_right, eq_by_cmp_equiv}
use Rattle.reg_names.specs.Names.{folded}
use Rattle.reg_tree_parts.specs.Rows.{ValueMap}
use Rattle.reg_tree_parts.specs.ValueEdits.{spelled_name, spelled_as, values_with}
use Rattle.reg_tree_parts.proofs.Keys.{names_total, names_apart}
use Rattle.reg_tree_parts.specs.declared.value.Value.{Value}
use Rattle.reg_tree_parts.specs.Orders.{name_order}
use Rattle.reg_tree_parts.specs.Weights.{value_weight}
use Rattle.persistent_map.specs.Writes.{merged, written}
use Rattle.std.proofs.lemmas.List.Sums.{sum_by-cons}

turned : {A : Type 0} (b : Bool) (x y : A) → cond (not b) x y ≡ cond b y x
turned true x y = refl
turned false x y = refl

pub past_end : {X : Type 0} (xs : List X) (i : ℕ) → length xs ≤ i → slice_get xs i ≡ None
past_end [] i past = refl
past_end (x ∷ xs) zero past = absurd (omega arith)
past_end (x ∷ xs) (suc i) past = past_end xs i (omega arith)

module _ (es : List (List ℕ × Value)) (sorted : T (is_sorted name_order es)) where
  -- the entries of the map are those of the list
  pub entries_are : finite.entries (finite.from_sorted {R = name_order} es) ≡ es
  entries_are = entries-from_sorted name_order es sorted

  -- so are its values
  pub values_are : finite.values (finite.from_sorted {R = name_order} es) ≡ map (λ e. e.1) es
  values_are = ap (map (λ e. e.1)) entries_are

  -- and its length
  pub len_is : finite.len (finite.from_sorted {R = name_order} es) ≡ length es
  len_is = len-entries _ ∙ ap length entries_are

  -- and what it has under a name
  pub get_is : (k : List ℕ) → finite.get (finite.from_sorted {R = name_order} es) k ≡ find name_order k es
  get_is k = get-from_sorted name_order es k sorted

  -- the map with a value inserted models the entries with it put in
  pub inserted_is : (k : List ℕ) (v : Value) (made : List (List ℕ × Value)) → made ≡ put name_order k v es
      → T (is_sorted name_order made) × (finite.from_sorted {R = name_order} made ≡ finite.insert (finite.from_sorted es) k v)
  inserted_is k v made is =
      let in_order : T (is_sorted name_order made) = subst (λ xs. T (is_sorted name_order xs)) (sym is) (is_sorted-put name_order names_total k v es sorted) in
      (in_order, same_entries_map _ _ (entries-from_sorted name_order made in_order ∙ is ∙ ap (put name_order k v) (sym entries_are) ∙ sym (entries-insert names_total _ k v)))

  -- the map with a value removed models the entries without it
  pub removed_is : (k : List ℕ) (made : List (List ℕ × Value)) → made ≡ where_key name_order (λ x. not (eq_by_cmp name_order k x)) es
      → T (is_sorted name_order made) × (finite.from_sorted {R = name_order} made ≡ finite.remove (finite.from_sorted es) k)
  removed_is k made is =
      let in_order : T (is_sorted name_order made) = subst (λ xs. T (is_sorted name_order xs)) (sym is) (is_sorted-where_key name_order _ es sorted) in
      let same : (q : List ℕ) → finite.get (finite.from_sorted {R = name_order} made) q ≡ finite.get (finite.remove (finite.from_sorted es) k) q =
      λ q. get-from_sorted name_order made q in_order ∙ ap (find name_order q) is
      ∙ find-where_key name_order _ q (λ x tied. ap (λ o. not (is_eq o)) (sym (alike_right names_total q x k tied))) es
      ∙ turned (eq_by_cmp name_order k q) (find name_order q es) None
      ∙ ap (λ b. cond b None (find name_order q es)) ((eq_by_cmp_equiv names_total).symm k q)
      ∙ ap (cond (eq_by_cmp name_order q k) None) (sym (get-from_sorted name_order es q sorted))
      ∙ sym (get-remove names_total _ k q) in
      (in_order, same_map names_total names_apart _ _ same)

-- the weight of values is that of their entries
loads : (es : List (List ℕ × Value)) → sum_by (λ e. value_weight e.1) es ≡ sum_by value_weight (map (λ e. e.1) es)
loads [] = refl
loads (e ∷ es) = sum_by-cons (λ x. value_weight x.1) e es ∙ ap (λ w. value_weight e.1 + w) (loads es) ∙ sym (sum_by-cons value_weight e.1 (map (λ x. x.1) es))

pub weights_are : (es : List (List ℕ × Value)) → T (is_sorted name_order es) → sum_by (λ e. value_weight e.1) es ≡ sum_by value_weight (finite.values (finite.from_sorted {R = name_order} es))
weights_are es sorted = loads es ∙ ap (sum_by value_weight) (sym (values_are es sorted))

-- a value that is merged with what has its name is spelled as that
merged_is : (found : Option Value) (value : Value) → merged spelled_as found value ≡ record { name = spelled_name found value.name; kind = value.kind; «data» = value.data }
merged_is None value = refl
merged_is (Some old) value = refl

-- a list into which a value was written is in order, and models the map with it
pub written_is : (es : List (List ℕ × Value)) (sorted : T (is_sorted name_order es)) (value : Value) (made : List (List ℕ × Value)) → made ≡ written (λ v. folded v.name) spelled_as value es
    → T (is_sorted name_order made) × (finite.from_sorted {R = name_order} made ≡ values_with (finite.from_sorted es) value.name value.kind value.data)
written_is es sorted value made is =
    let inserted = inserted_is es sorted (folded value.name) (merged spelled_as (find name_order (folded value.name) es) value) made is in (
      inserted.0,
      inserted.1
          ∙ ap (finite.insert (finite.from_sorted es) (folded value.name)) (merged_is (find name_order (folded value.name) es) value ∙ ap (λ found. record { name = spelled_name found value.name; kind = value.kind; «data» = value.data }) (sym (get_is es sorted (folded value.name)))),
    )

-- what is written is decided by the name, the type and the bytes
pub with_same : (values : ValueMap) (name given : List ℕ) (kind : ℕ) (bytes shared : List ℕ) → name ≡ given → bytes ≡ shared → values_with values name kind bytes ≡ values_with values given kind shared
with_same values name given kind bytes shared e f = λ i. values_with values (e i) kind (f i)
