-- A key's values: one after another, and as the map of their folded names.
use Rattle.std.proofs.Common.{◌≡◌, inl, inr, ℕ, zero, suc, ◌+◌, ◌<◌, ◌^◌, List, [], ◌∷◌, ◌++◌, length, map, flat_map, take, slice_get, true, false, not, ◌&&◌, ◌||◌, T, refl, sym, ◌∙◌, ap, subst, arith, Some, None}
use Rattle.std.specs.List.{AllByRecursion, list_any}
use Rattle.std.specs.FinMap as finite
use Rattle.std.specs.FinMap.{get-from_entries, get-from_sorted, entries-from_sorted, same_map, same_entries_map, entries_sorted, len-entries}
use Rattle.std.specs.FinMap.Entries.{is_sorted, below_all, find}
use Rattle.std.specs.Ordering.{eq_by_cmp, is_eq, is_lt}
use Rattle.std.specs.declared.cmp.Ordering.TheVariants.{Less}
use Rattle.std.proofs.lemmas.List.{map-append, take_more, length-map}
use Rattle.std.proofs.lemmas.Option.{get_or_from_slice_get, slice_get_within}
use Rattle.reg_names.specs.Names.{folded}
use Rattle.reg_tree_parts.specs.declared.value.Value.{Value}
use Rattle.reg_tree_parts.specs.Orders.{name_order}
use Rattle.reg_tree_parts.specs.Rows.{ValueMap}
use Rattle.reg_tree_parts.proofs.Keys.{names_total, names_apart}
use Rattle.reg_tree_parts.proofs.SortedLists.{front_of, back_of, less_of}
use Rattle.hive_cells.specs.Bins.{Cells}
use Rattle.hive_tree_model.specs.Cells.{Grows}
use Rattle.hive_records.specs.Numbers.{nil_offset}
use Rattle.hive_records.specs.Names.{all_apart}
use Rattle.hive_records.specs.Values.{map_of, values_at}
use Rattle.hive_records.specs.Fields.{Gives, CellHolds}
use Rattle.hive_records.specs.ListEncodings.{offsets_bytes, AreOffsets}
use Rattle.hive_records.specs.KeyEncodings.{ValueCells}
use Rattle.hive_records.proofs.WholesAgain.{all_written, no_values}
use Rattle.hive_emit.specs.CellWrites.{Makes, Puts}
use Rattle.hive_emit.specs.Values.{IsValue, value_own, ValueAt, CanPutAll, ListedValues, ValuesAt}
use Rattle.hive_emit.proofs.Makings.{made_then, made_none, adds_none, adds_ahead, all_push, all_as, lists_none, lists_more}
use Rattle.hive_emit.proofs.Valued.{written_grown}

-- the element at an index, and those before it
pub take_next : {A : Type 0} (xs : List A) (i : ℕ) (x : A) → slice_get xs i ≡ Some x → take (i + 1) xs ≡ take i xs ++ x ∷ []
take_next xs i x e = take_more xs i x (slice_get_within xs i x e) ∙ ap (λ y. take i xs ++ y ∷ []) (get_or_from_slice_get xs i x x e)

pub no_listed : (bytes : List ℕ) → Makes bytes bytes (ListedValues [] [])
no_listed bytes = made_none bytes (ListedValues [] []) (λ x. record { written = []; listed = lists_none IsValue value_own x; at = refl; its = refl; near = tt })

listed_on : (cell_offsets : List ℕ) (values : List Value) (at : ℕ) (value : Value) (x y z : Cells) → Grows x y → Grows y z → ListedValues cell_offsets values x y → ValueAt at value y z → ListedValues (cell_offsets ++ at ∷ []) (values ++ value ∷ []) x z
listed_on cell_offsets values at value x y z g h l v = record {
  written = l.written ++ record { at = at; own = v.own; value = value } ∷ [];
  listed = lists_more IsValue value_own l.written (record { at = at; own = v.own; value = value }) x y z (λ w is. written_grown y z w h is) g h l.listed v.is v.adds;
  at = map-append (λ (w : ValueCells). w.at) l.written (record { at = at; own = v.own; value = value } ∷ []) ∙ ap (λ ps. ps ++ at ∷ []) l.at;
  its = map-append (λ (w : ValueCells). w.value) l.written (record { at = at; own = v.own; value = value } ∷ []) ∙ ap (λ vs. vs ++ value ∷ []) l.its;
  near = all_push (λ at. at < 2 ^ 32) cell_offsets at l.near v.near;
}

pub one_listed : (a b c cell_offsets : List ℕ) (values : List Value) (at : ℕ) (value : Value) → Makes a b (ListedValues cell_offsets values) → Makes b c (ValueAt at value) → Makes a c (ListedValues (cell_offsets ++ at ∷ []) (values ++ value ∷ []))
one_listed a b c cell_offsets values at value m n = made_then a b c (ListedValues cell_offsets values) (ValueAt at value) (ListedValues (cell_offsets ++ at ∷ []) (values ++ value ∷ [])) m n (λ x y z g h l v. listed_on cell_offsets values at value x y z g h l v)

-- the map of values, from them
entry : Value → List ℕ × Value
entry v = (folded v.name, v)

entries_again : (es : List (List ℕ × Value)) → AllByRecursion (λ (e : List ℕ × Value). let value = e.1 in folded value.name ≡ e.0) es → map (λ (v : Value). (folded v.name, v)) (map (λ e. e.1) es) ≡ es
entries_again [] h = refl
entries_again (e ∷ es) h = ap (λ n. (n, e.1) ∷ map (λ (v : Value). (folded v.name, v)) (map (λ e. e.1) es)) h.0 ∙ ap (λ xs. (e.0, e.1) ∷ xs) (entries_again es h.1)

found_among : (values : ValueMap) (q : List ℕ) → finite.get values q ≡ find name_order q (finite.entries values)
found_among values q =
    ap (λ (m : ValueMap). finite.get m q) (same_entries_map values (finite.from_sorted (finite.entries values)) (sym (entries-from_sorted name_order (finite.entries values) (entries_sorted values))))
    ∙ get-from_sorted name_order (finite.entries values) q (entries_sorted values)

pub map_again : (values : ValueMap) → CanPutAll values → map_of (finite.values values) ≡ values
map_again values can = same_map names_total names_apart (map_of (finite.values values)) values
    (λ q. get-from_entries names_total (map (λ (v : Value). (folded v.name, v)) (finite.values values)) q ∙ ap (find name_order q) (entries_again (finite.entries values) can.filed) ∙ sym (found_among values q))

not_in : {A : Type 0} (n : List ℕ) (es : List (List ℕ × A)) → T (below_all name_order n es) → list_any (eq_by_cmp name_order n) (map (λ e. e.0) es) ≡ false
not_in n [] h = refl
not_in n (e ∷ es) h =
    let less : name_order n e.0 ≡ Less = less_of (name_order n e.0) (front_of (is_lt (name_order n e.0)) (below_all name_order n es) h) in
    ap (λ o. is_eq o || list_any (eq_by_cmp name_order n) (map (λ e. e.0) es)) less ∙ not_in n es (back_of (is_lt (name_order n e.0)) (below_all name_order n es) h)

pub apart_sorted : {A : Type 0} (es : List (List ℕ × A)) → T (is_sorted name_order es) → all_apart (map (λ e. e.0) es) ≡ true
apart_sorted [] h = refl
apart_sorted (e ∷ es) h =
    ap (λ b. not b && all_apart (map (λ e. e.0) es)) (not_in e.0 es (front_of (below_all name_order e.0 es) (is_sorted name_order es) h)) ∙ apart_sorted es (back_of (below_all name_order e.0 es) (is_sorted name_order es) h)

names_are : (es : List (List ℕ × Value)) → AllByRecursion (λ (e : List ℕ × Value). let value = e.1 in folded value.name ≡ e.0) es → map (λ (v : Value). folded v.name) (map (λ e. e.1) es) ≡ map (λ e. e.0) es
names_are [] h = refl
names_are (e ∷ es) h = ap (λ n. n ∷ map (λ (v : Value). folded v.name) (map (λ e. e.1) es)) h.0 ∙ ap (λ ns. e.0 ∷ ns) (names_are es h.1)

-- the list of values, once all of them are written
values_read : (list : ℕ) (cell_offsets : List ℕ) (values : ValueMap) (x y z : Cells) → CanPutAll values → 0 < finite.len values → Grows x y → Grows y z → ListedValues cell_offsets (finite.values values) x y → Puts list (offsets_bytes cell_offsets) y z → ValuesAt list values x z
values_read list cell_offsets values x y z can some g h l p =
    let count : length l.written ≡ finite.len values = sym (length-map l.written (λ (w : ValueCells). w.value)) ∙ ap length l.its ∙ length-map (finite.entries values) (λ e. e.1) ∙ sym (len-entries values) in
    let apart : all_apart (map (λ (v : Value). folded v.name) (map (λ (w : ValueCells). w.value) l.written)) ≡ true =
    ap (λ vs. all_apart (map (λ (v : Value). folded v.name) vs)) l.its ∙ ap all_apart (names_are (finite.entries values) can.filed) ∙ apart_sorted (finite.entries values) (entries_sorted values) in
    let read : Gives (values_at true (length l.written) list) z (list ∷ flat_map value_own l.written) [] (map_of (map (λ (w : ValueCells). w.value) l.written)) =
    all_written true z list l.written (omega (arith, count)) (subst AreOffsets (sym l.at) l.near) apart (all_as (IsValue y) (IsValue z) l.written (λ w is. written_grown y z w h is) l.listed.all) (subst (λ ps. CellHolds z list (offsets_bytes ps)) (sym l.at) p.holds) in
    record {
      own = list ∷ flat_map value_own l.written;
      near = let near : list < nil_offset = p.near in omega arith;
      adds = adds_ahead x y z (flat_map value_own l.written) (list ∷ []) g h l.listed.adds p.adds;
      is = inr (record {
        written = l.written;
        its = l.its;
        each = all_as (IsValue y) (IsValue z) l.written (λ w is. written_grown y z w h is) l.listed.all;
        held = subst (λ ps. CellHolds z list (offsets_bytes ps)) (sym l.at) p.holds;
        its_own = refl;
      });
      gives = subst (λ (n : ℕ). Gives (values_at true n list) z (list ∷ flat_map value_own l.written) [] values) count
          (subst (λ (m : ValueMap). Gives (values_at true (length l.written) list) z (list ∷ flat_map value_own l.written) [] m) (ap map_of l.its ∙ map_again values can) read);
    }

pub values_made : (a b c : List ℕ) (list : ℕ) (cell_offsets : List ℕ) (values : ValueMap) → CanPutAll values → 0 < finite.len values → Makes a b (ListedValues cell_offsets (finite.values values)) → Makes b c (Puts list (offsets_bytes cell_offsets)) → Makes a c (ValuesAt list values)
values_made a b c list cell_offsets values can some m n = made_then a b c (ListedValues cell_offsets (finite.values values)) (Puts list (offsets_bytes cell_offsets)) (ValuesAt list values) m n (λ x y z g h l p. values_read list cell_offsets values x y z can some g h l p)

nothing : {A : Type 0} (xs : List A) → length xs ≡ 0 → xs ≡ []
nothing [] e = refl
nothing (x ∷ xs) e = absurd (omega (arith, e))

pub none_made : (a : List ℕ) (values : ValueMap) → CanPutAll values → finite.len values ≡ 0 → Makes a a (ValuesAt nil_offset values)
none_made a values can none = made_none a (ValuesAt nil_offset values) (λ x. record {
  own = [];
  near = omega arith;
  adds = adds_none x x;
  is = inl (record { none = none; without = refl; its_own = refl });
  gives = subst (λ (n : ℕ). Gives (values_at true n nil_offset) x [] [] values) (sym none)
      (subst (λ (m : ValueMap). Gives (values_at true 0 nil_offset) x [] [] m) (ap map_of (sym (nothing (finite.values values) (length-map (finite.entries values) (λ e. e.1) ∙ sym (len-entries values) ∙ none))) ∙ map_again values can) (no_values true x nil_offset));
})

-- what is at an index
pub all_at : {A : Type 0} (P : A → Type 0) (xs : List A) (i : ℕ) (x : A) → AllByRecursion P xs → slice_get xs i ≡ Some x → P x
all_at P [] i x h e = absurd (let no : ⊥ = cc in no)
all_at P (y ∷ xs) zero x h e = subst P (let same : y ≡ x = cc in same) h.0
all_at P (y ∷ xs) (suc i) x h e = all_at P xs i x h.1 e

pub not_past : {A : Type 0} (xs : List A) (i : ℕ) → i < length xs → slice_get xs i ≡ None → ⊥
not_past [] i h e = omega (arith, h)
not_past (x ∷ xs) zero h e = let no : ⊥ = cc in no
not_past (x ∷ xs) (suc i) h e = not_past xs i (omega arith) e

pub values_long : (values : ValueMap) → length (finite.values values) ≡ finite.len values
values_long values = length-map (finite.entries values) (λ e. e.1) ∙ sym (len-entries values)
