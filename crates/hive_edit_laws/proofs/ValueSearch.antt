-- Values of a key that was found, by the names of their records.
use Rattle.std.proofs.Common.{◌≡◌, ◌≢◌, inl, inr, ℕ, ◌<◌, ◌≤◌, ◌+◌, ◌*◌, ◌==◌, nat_le, List, [], ◌∷◌, ◌++◌, length, map, refl, ◌∙◌, ap, sym, subst, Bool, Some, None, Option, slice_get, slice_range, arith}
use Rattle.std.proofs.lemmas.Bool.Decides.{eqb_tells}
use Rattle.std.specs.FinMap as finite
use Rattle.std.specs.FinMap.{get-from_entries}
use Rattle.std.specs.FinMap.Entries.{find}
use Rattle.std.specs.Ordering.{eq_by_cmp}
use Rattle.refusals.specs.declared.refusal.Refusal.{Refusal}
use Rattle.refusals.specs.declared.refusal.Cause.TheVariants as cause
use Rattle.reg_names.specs.Names.{folded}
use Rattle.reg_tree_parts.specs.declared.value.Value.{Value}
use Rattle.reg_tree_parts.specs.Orders.{name_order}
use Rattle.reg_tree_parts.specs.Rows.{ValueMap}
use Rattle.reg_tree_parts.proofs.Keys.{names_total}
use Rattle.reg_tree.specs.Maps.{TreeMap}
use Rattle.hive_tree_model.specs.Lists.{IsIn}
use Rattle.hive_tree_model.proofs.Basics.{clash, some_same, no_if, same_not}
use Rattle.hive_cells.specs.Tiles.{u32_at, IsAllocatedCell, cell_data}
use Rattle.hive_cells.specs.Bins.{Cells, Shows}
use Rattle.hive_records.specs.Readers.{Read, Reader, done, rule, each, ◌⟫◌}
use Rattle.hive_records.specs.Numbers.{u16_at, words_from, begins_with}
use Rattle.hive_records.specs.Names.{has_flag, name_in, all_apart}
use Rattle.hive_records.specs.Heads.{value_fault}
use Rattle.hive_records.specs.Values.{data_of, value_at, values_at, map_of}
use Rattle.hive_records.specs.Fields.{Gives}
use Rattle.hive_records.specs.Images.{splits}
use Rattle.hive_records.proofs.Local.{never_ok}
use Rattle.hive_records.proofs.RecordReaders.{value_out}
use Rattle.hive_edit_laws.specs.Found.{KeyFound, ValueFound, value_name, HoldsValue, value_count, value_list, value_offset}
use Rattle.hive_edit_laws.proofs.ReaderSteps.{split_of, rule_of, LookStep, look_of, choice_of, done_of}
use Rattle.hive_edit_laws.proofs.CellsShown.{shown_some, shown_here}
use Rattle.hive_edit_laws.proofs.ListSearch.{word_get, word_in, word_back, each_in, each_back}
use Rattle.hive_edit_laws.proofs.KeySearch.{name_units, holds_node, values_read}
use Rattle.hive_edit_laws.proofs.KeyValues.{ValueSwap, value_swap}
use Rattle.hive_edit_laws.proofs.OneValue.{AtIndex, at_its_index, gives_one}
use Rattle.hive_edit_laws.proofs.ValueMaps.{found_here}
use Rattle.hive_edit_laws.proofs.Bools.{at_least}

-- words from the first byte on
first_in : (bytes : List ℕ) (n index : ℕ) → index < n → IsIn (u32_at bytes (4 * index)) (words_from bytes 0 4 n)
first_in bytes n index less = subst (λ (k : ℕ). IsIn (u32_at bytes k) (words_from bytes 0 4 n)) (omega arith) (word_in bytes 0 4 n index less)

first_get : (bytes : List ℕ) (n index : ℕ) → index < n → slice_get (words_from bytes 0 4 n) index ≡ Some (u32_at bytes (4 * index))
first_get bytes n index less = word_get bytes 0 4 n index less ∙ ap (λ (k : ℕ). Some (u32_at bytes k)) (omega arith)

-- the record of a value that was read
module _ (split : Bool) (at : ℕ) (cells : Cells) (own lent : List ℕ) (value : Value) (h : Gives (value_at split at) cells own lent value) where
  abbrev from : List ℕ → Reader Value
  from bytes = rule (begins_with bytes 0x6b76 20) cause.BadRecord ⟫ λ _.
      rule (nat_le (20 + u16_at bytes 2) (length bytes)) cause.BadRecord ⟫ λ _.
      name_in (has_flag 1 (u16_at bytes 16)) (slice_range bytes 20 (20 + u16_at bytes 2)) ⟫ λ name.
      data_of split (u32_at bytes 4) bytes ⟫ λ its_data.
      done (record { name = name; kind = u32_at bytes 12; «data» = its_data })

  pub looked : LookStep at from cells own lent value
  looked = look_of at from cells own lent value h

  pub its_value_name : (bytes : List ℕ) → cells at ≡ Some bytes → value.name ≡ value_name bytes
  its_value_name bytes here = by looked
    where
      on : (b o l : List ℕ) → Gives (from b) cells o l value → value.name ≡ value_name b
      on b o l g =
          let r = rule_of _ _ _ cells o l value g in
          let q = rule_of _ _ _ cells o l value r.1 in
          let c = split_of (name_in (has_flag 1 (u16_at b 16)) (slice_range b 20 (20 + u16_at b 2))) _ cells o l value q.1 in
          let d = split_of (data_of split (u32_at b 4) b) _ cells c.own_next c.lent_next value c.next in
          let e = done_of _ cells d.own_next d.lent_next value d.next in
          sym (ap (λ (v : Value). v.name) e.2) ∙ name_units (has_flag 1 (u16_at b 16)) (slice_range b 20 (20 + u16_at b 2)) cells c.own_first c.lent_first c.x c.first

      by : LookStep at from cells own lent value → value.name ≡ value_name bytes
      by l = on l.bytes l.own_next lent l.next ∙ ap value_name (some_same l.bytes bytes (sym l.here ∙ here))

  pub value_holds : (bytes : List ℕ) → Shows bytes cells → HoldsValue bytes at
  value_holds bytes shows = by looked
    where
      go : IsAllocatedCell bytes at → (o : Option Refusal) → value_fault (cell_data bytes at) ≡ o → value_fault (cell_data bytes at) ≡ None
      go a None e = e
      go a (Some r) e = never_ok r value (sym (ap (λ (z : Read Value). z.says) (value_out split cells at (cell_data bytes at) r (shown_here bytes cells shows at a) e)) ∙ ap (λ (z : Read Value). z.says) h.reads)

      by : LookStep at from cells own lent value → HoldsValue bytes at
      by l = let s = shown_some bytes cells shows at l.bytes l.here in (s.0, go s.0 (value_fault (cell_data bytes at)) refl)

-- none of the values has a name
find_none : (name : List ℕ) (values : List Value) → ((v : Value) → IsIn v values → folded v.name ≢ name) → find name_order name (map (λ (v : Value). (folded v.name, v)) values) ≡ None
find_none name [] apart = refl
find_none name (v ∷ values) apart = no_if (eq_by_cmp name_order name (folded v.name)) (Some v) (find name_order name (map (λ (w : Value). (folded w.name, w)) values)) (same_not name (folded v.name) (λ e. apart v (inl refl) (sym e))) ∙ find_none name values (λ w i. apart w (inr i))

get_none : (name : List ℕ) (values : List Value) → ((v : Value) → IsIn v values → folded v.name ≢ name) → finite.get (map_of values) name ≡ None
get_none name values apart = get-from_entries names_total (map (λ (v : Value). (folded v.name, v)) values) name ∙ find_none name values apart

-- the values that a list names
record ReadList (split : Bool) (cells : Cells) (count list : ℕ) (values : ValueMap) : Type 0 where
  bytes : List ℕ
  here : cells list ≡ Some bytes
  long : 4 * count ≤ length bytes
  its : List Value
  its_own : List ℕ
  its_lent : List ℕ
  reads : Gives (each (value_at split) (words_from bytes 0 4 count)) cells its_own its_lent its
  are : values ≡ map_of its

module _ (split : Bool) (cells : Cells) (count list : ℕ) (own lent : List ℕ) (values : ValueMap) (h : Gives (values_at split count list) cells own lent values) where
  listed : count ≢ 0 → ReadList split cells count list values
  listed some = elim (choice_of (count == 0) _ _ cells own lent values h) [
    | inl g ↦ elim (eqb_tells count 0) [ inl k ↦ absurd (some k.1) | inr k ↦ clash (count == 0) g.0 k.0 ]
    | inr g ↦ by (look_of list _ cells own lent values g.1)
  ]
    where
      by : LookStep list (λ b. rule (nat_le (4 * count) (length b)) cause.BadRecord ⟫ λ _. each (value_at split) (words_from b 0 4 count) ⟫ λ vs. rule (all_apart (map (λ (v : Value). folded v.name) vs)) cause.BadName ⟫ λ _. done (map_of vs)) cells own lent values → ReadList split cells count list values
      by l =
          let a = rule_of _ _ _ cells l.own_next lent values l.next in
          let b = split_of (each (value_at split) (words_from l.bytes 0 4 count)) _ cells l.own_next lent values a.1 in
          let c = rule_of _ _ _ cells b.own_next b.lent_next values b.next in
          let d = done_of _ cells b.own_next b.lent_next values c.1 in
          record { bytes = l.bytes; here = l.here; long = at_least (4 * count) (length l.bytes) a.0; its = b.x; its_own = b.own_first; its_lent = b.lent_first; reads = b.first; are = sym d.2 }

  none_at : count ≡ 0 → (name : List ℕ) → finite.get values name ≡ None
  none_at zero name = elim (choice_of (count == 0) _ _ cells own lent values h) [
    | inl g ↦ ap (λ (vs : ValueMap). finite.get vs name) (sym (done_of (map_of []) cells own lent values g.1).2) ∙ get_none name [] (λ v i. absurd i)
    | inr g ↦ elim (eqb_tells count 0) [ inl k ↦ clash (count == 0) k.0 g.0 | inr k ↦ absurd (k.1 zero) ]
  ]

module _ (bytes : List ℕ) (root minor : ℕ) (tree : TreeMap) (path : List (List ℕ)) (at : ℕ) (f : KeyFound bytes root minor tree path at) where
  -- the values of a key that has some
  some_listed : value_count bytes at ≢ 0 → ReadList (splits minor) f.cells (value_count bytes at) (value_list bytes at) f.place.parts.row.values
  some_listed some = let v = values_read bytes root minor tree path at f in listed (splits minor) f.cells (value_count bytes at) (value_list bytes at) v.0 [] f.place.parts.row.values v.1 some

  pub no_values : value_count bytes at ≡ 0 → (name : List ℕ) → finite.get f.place.parts.row.values name ≡ None
  no_values zero name = let v = values_read bytes root minor tree path at f in none_at (splits minor) f.cells (value_count bytes at) (value_list bytes at) v.0 [] f.place.parts.row.values v.1 zero name

  pub list_there : value_count bytes at ≢ 0 → IsAllocatedCell bytes (value_list bytes at) × (4 * value_count bytes at ≤ length (cell_data bytes (value_list bytes at)))
  list_there some =
      let l = some_listed some in
      let s = shown_some bytes f.cells f.shows (value_list bytes at) l.bytes l.here in
      (s.0, subst (λ (z : List ℕ). 4 * value_count bytes at ≤ length z) s.1 l.long)

  not_none : (index : ℕ) → index < value_count bytes at → value_count bytes at ≢ 0
  not_none index less e = absurd (omega (arith, less, e))

  list_bytes : (some : value_count bytes at ≢ 0) → (some_listed some).bytes ≡ cell_data bytes (value_list bytes at)
  list_bytes some = (shown_some bytes f.cells f.shows (value_list bytes at) (some_listed some).bytes (some_listed some).here).1

  -- the value at an index
  at_index : (index : ℕ) (less : index < value_count bytes at) → (v : Value) × (o : List ℕ) × (l : List ℕ) × Gives (value_at (splits minor) (value_offset bytes at index)) f.cells o l v × IsIn v (some_listed (not_none index less)).its
  at_index index less =
      let l = some_listed (not_none index less) in
      each_in (value_at (splits minor)) f.cells (words_from l.bytes 0 4 (value_count bytes at)) l.its_own l.its_lent l.its l.reads (value_offset bytes at index)
      (subst (λ (z : List ℕ). IsIn (value_offset bytes at index) (words_from z 0 4 (value_count bytes at))) (sym (list_bytes (not_none index less))) (first_in (cell_data bytes (value_list bytes at)) (value_count bytes at) index less))

  pub record_there : (index : ℕ) → index < value_count bytes at → HoldsValue bytes (value_offset bytes at index)
  record_there index less = let v = at_index index less in value_holds (splits minor) (value_offset bytes at index) f.cells v.1 v.2 v.0 v.3 bytes f.shows

  pub value_there : (index : ℕ) (name : List ℕ) → index < value_count bytes at → folded (value_name (cell_data bytes (value_offset bytes at index))) ≡ name → ValueFound bytes root minor tree path name at index (value_offset bytes at index)
  value_there index name less is = by (at_index index less)
    where
      by : (v : Value) × (o : List ℕ) × (l : List ℕ) × Gives (value_at (splits minor) (value_offset bytes at index)) f.cells o l v × IsIn v (some_listed (not_none index less)).its → ValueFound bytes root minor tree path name at index (value_offset bytes at index)
      by v = record {
        in_key = f;
        node = cell_data bytes at;
        node_is = shown_here bytes f.cells f.shows at (holds_node bytes root minor tree path at f).0;
        list = cell_data bytes (value_list bytes at);
        list_is = shown_here bytes f.cells f.shows (value_list bytes at) (list_there (not_none index less)).0;
        listed = first_get (cell_data bytes (value_list bytes at)) (value_count bytes at) index less;
        own = v.1;
        lent = v.2;
        value = v.0;
        reads = v.3;
        named = ap folded (its_value_name (splits minor) (value_offset bytes at index) f.cells v.1 v.2 v.0 v.3 (cell_data bytes (value_offset bytes at index)) (shown_here bytes f.cells f.shows (value_offset bytes at index) (record_there index less).0)) ∙ is;
      }

  pub value_absent : (name : List ℕ) → ((index : ℕ) → index < value_count bytes at → folded (value_name (cell_data bytes (value_offset bytes at index))) ≢ name) → finite.get f.place.parts.row.values name ≡ None
  value_absent name apart = elim (eqb_tells (value_count bytes at) 0) [ inl z ↦ no_values z.1 name | inr z ↦ by z.1 ]
    where
      called : (index : ℕ) (less : index < value_count bytes at) (x : ℕ) (v : Value) (o l : List ℕ) → Gives (value_at (splits minor) x) f.cells o l v → x ≡ value_offset bytes at index → folded v.name ≢ name
      called index less x v o l g e is = apart index less (ap folded (sym (its_value_name (splits minor) (value_offset bytes at index) f.cells o l v (subst (λ (z : ℕ). Gives (value_at (splits minor) z) f.cells o l v) e g) (cell_data bytes (value_offset bytes at index)) (shown_here bytes f.cells f.shows (value_offset bytes at index) (record_there index less).0))) ∙ is)

      by : value_count bytes at ≢ 0 → finite.get f.place.parts.row.values name ≡ None
      by some =
          let l = some_listed some in
          ap (λ (vs : ValueMap). finite.get vs name) l.are ∙ get_none name l.its (λ v i.
          let r = each_back (value_at (splits minor)) f.cells (words_from l.bytes 0 4 (value_count bytes at)) l.its_own l.its_lent l.its l.reads v i in
          let k = word_back l.bytes 0 4 (value_count bytes at) r.0 r.4 in
          called k.0 k.1 r.0 v r.1 r.2 r.3 (k.2 ∙ ap (λ (z : List ℕ). u32_at z (0 + 4 * k.0)) (list_bytes some) ∙ ap (u32_at (cell_data bytes (value_list bytes at))) (omega arith)))

-- the value that was found is the key's value of that name
pub value_is : (bytes : List ℕ) (root minor : ℕ) (tree : TreeMap) (path : List (List ℕ)) (name : List ℕ) (key index at : ℕ) (f : ValueFound bytes root minor tree path name key index at) → finite.get f.in_key.place.parts.row.values name ≡ Some f.value
value_is bytes root minor tree path name key index at f = by (values_read bytes root minor tree path key f.in_key) (at_its_index (words_from f.list 0 4 (u32_at f.node 36)) index at f.listed)
  where
    same : f.node ≡ cell_data bytes key
    same = (shown_some bytes f.in_key.cells f.in_key.shows key f.node f.node_is).1

    of : (o : List ℕ) → ValueSwap (splits minor) (value_count bytes key) (value_list bytes key) at f.in_key.cells f.in_key.cells o [] f.in_key.place.parts.row.values → finite.get f.in_key.place.parts.row.values name ≡ Some f.value
    of o c =
        let one : c.was ≡ f.value = gives_one (value_at (splits minor) at) f.in_key.cells c.its_own c.its_lent f.own f.lent c.was f.value c.one f.reads in
        ap (λ (vs : ValueMap). finite.get vs name) c.are
        ∙ ap (finite.get (map_of (c.front ++ c.was ∷ c.back))) (sym (ap (λ (v : Value). folded v.name) one ∙ f.named))
        ∙ get-from_entries names_total (map (λ (v : Value). (folded v.name, v)) (c.front ++ c.was ∷ c.back)) (folded (c.was).name)
        ∙ found_here c.front c.was c.back c.apart
        ∙ ap Some one

    by : (own : List ℕ) × Gives (values_at (splits minor) (value_count bytes key) (value_list bytes key)) f.in_key.cells own [] f.in_key.place.parts.row.values → AtIndex (words_from f.list 0 4 (u32_at f.node 36)) index at → finite.get f.in_key.place.parts.row.values name ≡ Some f.value
    by v p = of v.0 (value_swap (splits minor) (value_count bytes key) (value_list bytes key) at f.in_key.cells f.in_key.cells v.0 [] f.in_key.place.parts.row.values f.list p.first p.rest
        (subst (λ (z : List ℕ). f.in_key.cells (u32_at z 40) ≡ Some f.list) same f.list_is)
        (subst (λ (z : List ℕ). words_from f.list 0 4 (u32_at z 36) ≡ p.first ++ at ∷ p.rest) same p.is)
        v.1)
