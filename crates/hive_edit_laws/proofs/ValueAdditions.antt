-- A value more in a key that was found: so have the key's values.
use Rattle.std.proofs.Common.{◌≡◌, ◌≢◌, ◌⊎◌, inl, inr, ℕ, zero, suc, ◌≤◌, ◌*◌, List, [], ◌∷◌, ◌++◌, length, map, refl, ◌∙◌, ap, sym, subst, Bool, true, Ok, Some, None, IsSome, arith}
use Rattle.std.specs.FinMap as finite
use Rattle.reg_names.specs.Names.{folded}
use Rattle.reg_tree_parts.specs.declared.value.Value.{Value}
use Rattle.reg_tree_parts.specs.Rows.{Row, ValueMap}
use Rattle.reg_tree_parts.specs.ValueEdits.{values_with}
use Rattle.reg_tree.specs.Maps.{TreeMap}
use Rattle.hive_tree_model.specs.Lists.{IsIn, Once}
use Rattle.hive_tree_model.specs.Keys.{KeyParts, own_cells}
use Rattle.hive_tree_model.proofs.Basics.{some_same, in_front, in_back, in_either, once_front, once_back, once_apart}
use Rattle.hive_cells.specs.Tiles.{u32_at}
use Rattle.hive_cells.specs.Bins.{Cells}
use Rattle.hive_records.specs.Readers.{Read, each}
use Rattle.hive_records.specs.Numbers.{words_from}
use Rattle.hive_records.specs.Names.{all_apart}
use Rattle.hive_records.specs.Values.{value_at, values_at, map_of}
use Rattle.hive_records.specs.Fields.{Gives}
use Rattle.hive_records.specs.Images.{splits}
use Rattle.hive_records.proofs.Keys.{keys_there}
use Rattle.hive_records.proofs.Local.{local_each}
use Rattle.hive_load_parts.proofs.NoneLent.{none_values}
use Rattle.hive_edit_laws.specs.Shifts.{with_at}
use Rattle.hive_edit_laws.specs.ValueEdits.{value_cells, list_cells, ValuesChange, AddsValue}
use Rattle.hive_edit_laws.specs.Found.{KeyFound}
use Rattle.hive_edit_laws.proofs.EachSwaps.{same_reading}
use Rattle.hive_edit_laws.proofs.EachParts.{Halves, halves, of_halves, of_one}
use Rattle.hive_edit_laws.proofs.KeyPlaces.{none_there}
use Rattle.hive_edit_laws.proofs.KeySteps.{Steps, in_five}
use Rattle.hive_edit_laws.proofs.KeyValues.{once_exchange}
use Rattle.hive_edit_laws.proofs.ValueRecords.{local_value}
use Rattle.hive_edit_laws.proofs.ValuesRead.{ValuesRead, values_of, values_some}
use Rattle.hive_edit_laws.proofs.MapEdits.{map_with, apart_with, find_none_of}
use Rattle.hive_edit_laws.proofs.RowRevisions.{whole_found, read_found, steps_found}

-- a list in two parts, with an element more between them
pub record Gap (ws : List ℕ) (i x : ℕ) : Type 0 where
  pub first : List ℕ
  pub rest : List ℕ
  pub were : ws ≡ first ++ rest
  pub are : with_at i x ws ≡ first ++ x ∷ rest

pub gap : (ws : List ℕ) (i x : ℕ) → Gap ws i x
gap ws zero x = record { first = []; rest = ws; were = refl; are = refl }
gap [] (suc i) x = record { first = []; rest = []; were = refl; are = refl }
gap (w ∷ ws) (suc i) x = let g = gap ws i x in record { first = w ∷ g.first; rest = g.rest; were = ap (λ (zs : List ℕ). w ∷ zs) g.were; are = ap (λ (zs : List ℕ). w ∷ zs) g.are }

module _ (split : Bool) (key at index moment : ℕ) (name : List ℕ) (kind : ℕ) (value_bytes : List ℕ) (before after : Cells) (parts : KeyParts Row) (s : Steps split key before parts) (once : Once parts.own) (there : (cell : ℕ) → IsIn cell parts.own → IsSome (before cell))
    (absent : finite.get (parts.row).values (folded name) ≡ None) (c : AddsValue split before after key at index (record { name = name; kind = kind; «data» = value_bytes }) moment) where
  abbrev value : Value
  value = record { name = name; kind = kind; «data» = value_bytes }

  same_node : c.old_node ≡ s.node
  same_node = some_same c.old_node s.node (sym c.old_is ∙ s.here)

  cells_are : value_cells split before c.old_node ≡ s.vo
  cells_are = ap (value_cells split before) same_node ∙ ap (λ (z : Read ValueMap). z.own) (s.valued).reads

  once_so : Once (key ∷ (s.na ++ (s.co ++ (s.eo ++ (s.vo ++ s.ko)))))
  once_so = subst (λ (z : List ℕ). Once z) s.own_is once

  once_vo : Once s.vo
  once_vo = once_front s.vo s.ko (once_back s.eo (s.vo ++ s.ko) (once_back s.co (s.eo ++ (s.vo ++ s.ko)) (once_back s.na (s.co ++ (s.eo ++ (s.vo ++ s.ko))) once_so.1)))

  vo_there : (cell : ℕ) → IsIn cell s.vo → IsSome (before cell)
  vo_there cell i = there cell (subst (λ (z : List ℕ). IsIn cell z) (sym s.own_is) (inr (in_five s.na s.co s.eo s.vo s.ko cell i)))

  not_key : (cell : ℕ) → IsIn cell s.vo → cell ≢ key
  not_key cell i e = once_so.0 (subst (λ (z : ℕ). IsIn z (s.na ++ (s.co ++ (s.eo ++ (s.vo ++ s.ko))))) e (in_five s.na s.co s.eo s.vo s.ko cell i))

  none_lent : s.vl ≡ []
  none_lent = sym (ap (λ (z : Read ValueMap). z.lent) (s.valued).reads) ∙ none_values split (u32_at s.node 36) (u32_at s.node 40) before

  read : ValuesRead split before (u32_at s.node 36) (u32_at s.node 40) c.old_list s.vo s.vl (parts.row).values
  read = values_of split before (u32_at s.node 36) (u32_at s.node 40) c.old_list s.vo s.vl (parts.row).values
      (λ some. subst (λ (z : List ℕ). before (u32_at z 40) ≡ Some c.old_list) same_node (c.old_list_is (λ e. some (ap (λ (z : List ℕ). u32_at z 36) (sym same_node) ∙ e)))) s.valued

  module _ (r : ValuesRead split before (u32_at s.node 36) (u32_at s.node 40) c.old_list s.vo s.vl (parts.row).values) (g : Gap (words_from c.old_list 0 4 (u32_at s.node 36)) index at) (h : Halves (value_at split) before g.first g.rest r.its_own r.its_lent r.its) where
    -- the old list is none of the values' own cells
    once_both : Once (list_cells s.node ++ r.its_own)
    once_both = subst (λ (z : List ℕ). Once z) r.own_is once_vo

    its_in : (cell : ℕ) → IsIn cell r.its_own → IsIn cell s.vo
    its_in cell i = subst (λ (z : List ℕ). IsIn cell z) (sym r.own_is) (in_back cell (list_cells s.node) r.its_own i)

    list_in : (cell : ℕ) → IsIn cell (list_cells c.old_node) → IsIn cell s.vo
    list_in cell i = subst (λ (z : List ℕ). IsIn cell z) (sym r.own_is) (in_front cell (list_cells s.node) r.its_own (subst (λ (z : List ℕ). IsIn cell z) (ap list_cells same_node) i))

    its_stay : (cell : ℕ) → IsIn cell r.its_own → after cell ≡ before cell
    its_stay cell i = c.stays cell (vo_there cell (its_in cell i)) (not_key cell (its_in cell i)) (λ j. once_apart cell (list_cells s.node) r.its_own once_both (subst (λ (z : List ℕ). IsIn cell z) (ap list_cells same_node) j) i)

    u_in : (cell : ℕ) → IsIn cell h.own_u → IsIn cell r.its_own
    u_in cell i = subst (λ (z : List ℕ). IsIn cell z) (sym h.own_is) (in_front cell h.own_u h.own_w i)

    w_in : (cell : ℕ) → IsIn cell h.own_w → IsIn cell r.its_own
    w_in cell i = subst (λ (z : List ℕ). IsIn cell z) (sym h.own_is) (in_back cell h.own_u h.own_w i)

    lent_none : h.lent_u ++ h.lent_w ≡ []
    lent_none = sym h.lent_is ∙ sym r.lent_is ∙ none_lent

    no_lent : (cell : ℕ) → IsIn cell (h.lent_u ++ h.lent_w) → ⊥
    no_lent cell i = absurd (subst (λ (z : List ℕ). IsIn cell z) lent_none i)

    front : Gives (each (value_at split) g.first) after h.own_u h.lent_u h.us
    front = same_reading (each (value_at split) g.first) (local_each (local_value split) g.first) before after h.own_u h.lent_u h.us h.first (λ cell i. its_stay cell (u_in cell i)) (λ cell i. absurd (no_lent cell (in_front cell h.lent_u h.lent_w i)))

    back : Gives (each (value_at split) g.rest) after h.own_w h.lent_w h.ws
    back = same_reading (each (value_at split) g.rest) (local_each (local_value split) g.rest) before after h.own_w h.lent_w h.ws h.second (λ cell i. its_stay cell (w_in cell i)) (λ cell i. absurd (no_lent cell (in_back cell h.lent_u h.lent_w i)))

    all_now : Gives (each (value_at split) (g.first ++ at ∷ g.rest)) after (h.own_u ++ (c.own ++ h.own_w)) (h.lent_u ++ h.lent_w) (h.us ++ value ∷ h.ws)
    all_now = of_halves (value_at split) after g.first (at ∷ g.rest) h.own_u (c.own ++ h.own_w) h.lent_u h.lent_w h.us (value ∷ h.ws) front (of_one (value_at split) after at g.rest c.own h.own_w [] h.lent_w value h.ws c.reads back)

    words : words_from c.new_list 0 4 (u32_at c.new_node 36) ≡ g.first ++ at ∷ g.rest
    words = ap (words_from c.new_list 0 4) c.count ∙ c.listed ∙ ap (λ (z : List ℕ). with_at index at (words_from c.old_list 0 4 (u32_at z 36))) same_node ∙ g.are

    were : r.its ≡ h.us ++ h.ws
    were = h.are

    absent_so : finite.get (map_of (h.us ++ h.ws)) (folded name) ≡ None
    absent_so = ap (λ (vs : List Value). finite.get (map_of vs) (folded name)) (sym were) ∙ ap (λ (m : ValueMap). finite.get m (folded name)) (sym r.are) ∙ absent

    apart_now : all_apart (map (λ (v : Value). folded v.name) (h.us ++ value ∷ h.ws)) ≡ true
    apart_now = apart_with h.us h.ws value (folded name) refl (find_none_of h.us h.ws (folded name) absent_so) (subst (λ (vs : List Value). all_apart (map (λ (v : Value). folded v.name) vs) ≡ true) were r.apart)

    abbrev new_own : List ℕ
    new_own = u32_at c.new_node 40 ∷ (h.own_u ++ (c.own ++ h.own_w))

    values_are : map_of (h.us ++ value ∷ h.ws) ≡ values_with (parts.row).values name kind value_bytes
    values_are = map_with h.us h.ws name kind value_bytes absent_so apart_now ∙ ap (λ (m : ValueMap). values_with m name kind value_bytes) (ap map_of (sym were) ∙ sym r.are)

    some : u32_at c.new_node 36 ≢ 0
    some e = (let k : u32_at c.new_node 36 ≡ suc (u32_at c.old_node 36) = c.count in absurd (omega (arith, e, k)))

    long_now : 4 * u32_at c.new_node 36 ≤ length c.new_list
    long_now = subst (λ (n : ℕ). 4 * n ≤ length c.new_list) (sym c.count) c.long

    read_now : Gives (values_at split (u32_at c.new_node 36) (u32_at c.new_node 40)) after new_own [] (values_with (parts.row).values name kind value_bytes)
    read_now = record {
      reads = (values_some split after (u32_at c.new_node 36) (u32_at c.new_node 40) c.new_list (h.own_u ++ (c.own ++ h.own_w)) (h.lent_u ++ h.lent_w) (h.us ++ value ∷ h.ws) some c.new_list_is long_now
          (subst (λ (ws : List ℕ). Gives (each (value_at split) ws) after (h.own_u ++ (c.own ++ h.own_w)) (h.lent_u ++ h.lent_w) (h.us ++ value ∷ h.ws)) (sym words) all_now) apart_now).reads
          ∙ (λ i. record { own = new_own; lent = lent_none i; says = Ok (values_are i) });
    }

    once_its : Once (h.own_u ++ h.own_w)
    once_its = subst (λ (z : List ℕ). Once z) h.own_is (once_back (list_cells s.node) r.its_own once_both)

    old_its : (cell : ℕ) → IsIn cell (h.own_u ++ h.own_w) → IsIn cell r.its_own
    old_its cell i = subst (λ (z : List ℕ). IsIn cell z) (sym h.own_is) i

    -- the list is none of the values' cells
    list_apart : IsIn (u32_at c.new_node 40) (h.own_u ++ (c.own ++ h.own_w)) → ⊥
    list_apart i = elim (in_either (u32_at c.new_node 40) h.own_u (c.own ++ h.own_w) i) [
      | inl j ↦ old (u_in (u32_at c.new_node 40) j)
      | inr j ↦ elim (in_either (u32_at c.new_node 40) c.own h.own_w j) [
        | inl k ↦ c.apart k
        | inr k ↦ old (w_in (u32_at c.new_node 40) k)
      ]
    ]
      where
        old : IsIn (u32_at c.new_node 40) r.its_own → ⊥
        old i = elim c.list_takes [
          | inl j ↦ once_apart (u32_at c.new_node 40) (list_cells s.node) r.its_own once_both (subst (λ (z : List ℕ). IsIn (u32_at c.new_node 40) z) (ap list_cells same_node) j) i
          | inr j ↦ none_there (before (u32_at c.new_node 40)) (vo_there (u32_at c.new_node 40) (its_in (u32_at c.new_node 40) i)) j
        ]

    once_now : Once new_own
    once_now = (list_apart, once_exchange h.own_u [] h.own_w c.own once_its c.once (λ cell i. inr (λ j. none_there (before cell) (vo_there cell (its_in cell (old_its cell j))) (c.fresh cell i))))

    in_values : (cell : ℕ) → IsIn cell s.vo → IsIn cell (value_cells split before c.old_node)
    in_values cell i = subst (λ (z : List ℕ). IsIn cell z) (sym cells_are) i

    takes_now : (cell : ℕ) → IsIn cell new_own → IsIn cell (value_cells split before c.old_node) ⊎ (before cell ≡ None)
    takes_now cell (inl e) = elim c.list_takes [
      | inl j ↦ inl (in_values cell (list_in cell (subst (λ (z : ℕ). IsIn z (list_cells c.old_node)) (sym e) j)))
      | inr j ↦ inr (ap before e ∙ j)
    ]
    takes_now cell (inr i) = elim (in_either cell h.own_u (c.own ++ h.own_w) i) [
      | inl j ↦ inl (in_values cell (its_in cell (u_in cell j)))
      | inr j ↦ elim (in_either cell c.own h.own_w j) [
        | inl k ↦ inr (c.fresh cell k)
        | inr k ↦ inl (in_values cell (its_in cell (w_in cell k)))
      ]
    ]

    by_parts : ValuesChange split before after key (values_with (parts.row).values name kind value_bytes) moment
    by_parts = record {
      old_node = c.old_node;
      old_is = c.old_is;
      new_node = c.new_node;
      new_is = c.new_is;
      fields = c.fields;
      time_is = c.time_is;
      subkey_count = c.subkey_count;
      subkeys = c.subkeys;
      own = new_own;
      reads = read_now;
      once = once_now;
      takes = takes_now;
      stays = λ cell is nk out. c.stays cell is nk (λ j. out (in_values cell (list_in cell j)));
    }

  pub change : ValuesChange split before after key (values_with (parts.row).values name kind value_bytes) moment
  change = let g = gap (words_from c.old_list 0 4 (u32_at s.node 36)) index at in
      by_parts read g (halves (value_at split) before g.first g.rest read.its_own read.its_lent read.its (subst (λ (ws : List ℕ). Gives (each (value_at split) ws) before read.its_own read.its_lent read.its) g.were read.reads))

pub addition : (bytes : List ℕ) (root minor : ℕ) (tree : TreeMap) (path : List (List ℕ)) (name : List ℕ) (key at index kind : ℕ) (value_bytes : List ℕ) (moment : ℕ) (f : KeyFound bytes root minor tree path key) (after : Cells) → finite.get f.place.parts.row.values (folded name) ≡ None → AddsValue (splits minor) f.cells after key at index (record { name = name; kind = kind; «data» = value_bytes }) moment →
    ValuesChange (splits minor) f.cells after key (values_with f.place.parts.row.values name kind value_bytes) moment
addition bytes root minor tree path name key at index kind value_bytes moment f after absent c =
    change (splits minor) key at index moment name kind value_bytes f.cells after f.place.parts (steps_found bytes root minor tree path key f)
    (once_front f.place.parts.own (own_cells f.place.below) (whole_found bytes root minor tree path key f).once)
    (λ cell i. keys_there (splits minor) f.cells key f.place.parts (read_found bytes root minor tree path key f) cell (in_front cell f.place.parts.own f.place.parts.lent i))
    absent c
