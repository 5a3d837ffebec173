-- A value less in a key that was found: so have the key's values.
use Rattle.std.proofs.Common.{◌≡◌, ◌≢◌, ◌⊎◌, inl, inr, ℕ, zero, suc, ◌==◌, ne_eqb, List, [], ◌∷◌, ◌++◌, map, refl, ◌∙◌, ap, sym, subst, Bool, true, Ok, Some, None, IsSome, slice_get, arith}
use Rattle.std.proofs.lemmas.Bool.Decides.{eqb_tells}
use Rattle.reg_names.specs.Names.{folded}
use Rattle.reg_tree_parts.specs.declared.value.Value.{Value}
use Rattle.reg_tree_parts.specs.Rows.{Row, ValueMap}
use Rattle.reg_tree_parts.specs.ValueEdits.{values_without}
use Rattle.reg_tree.specs.Maps.{TreeMap}
use Rattle.hive_tree_model.specs.Lists.{IsIn, Once}
use Rattle.hive_tree_model.specs.Keys.{KeyParts, own_cells}
use Rattle.hive_tree_model.proofs.Basics.{some_same, some_none, no_if, in_front, in_back, in_either, once_front, once_back, once_apart}
use Rattle.hive_cells.specs.Tiles.{u32_at}
use Rattle.hive_cells.specs.Bins.{Cells}
use Rattle.hive_records.specs.Readers.{Read, each}
use Rattle.hive_records.specs.Numbers.{words_from}
use Rattle.hive_records.specs.Names.{all_apart}
use Rattle.hive_records.specs.Values.{value_at, values_at, map_of}
use Rattle.hive_records.specs.Fields.{Gives}
use Rattle.hive_records.specs.Images.{splits}
use Rattle.hive_records.proofs.Keys.{keys_there}
use Rattle.hive_records.proofs.Local.{local_each}
use Rattle.hive_load_parts.proofs.NoneLent.{none_values}
use Rattle.hive_edit_laws.specs.Shifts.{without_at}
use Rattle.hive_edit_laws.specs.ValueEdits.{value_cells, data_cells, list_cells, ValuesChange, DropsValue}
use Rattle.hive_edit_laws.specs.Found.{ValueFound}
use Rattle.hive_edit_laws.proofs.EachSwaps.{Steps as EachSteps, steps_of, same_reading}
use Rattle.hive_edit_laws.proofs.EachParts.{Halves, halves, of_halves, none_are}
use Rattle.hive_edit_laws.proofs.KeyPlaces.{none_there}
use Rattle.hive_edit_laws.proofs.KeySteps.{Steps, in_five}
use Rattle.hive_edit_laws.proofs.KeyValues.{once_exchange}
use Rattle.hive_edit_laws.proofs.ValueRecords.{local_value}
use Rattle.hive_edit_laws.proofs.ValuesRead.{ValuesRead, values_of, values_some, values_empty}
use Rattle.hive_edit_laws.proofs.MapEdits.{map_without, apart_without}
use Rattle.hive_edit_laws.proofs.OneValue.{none_in, gives_one}
use Rattle.hive_edit_laws.proofs.DataCells.{ValueParts, value_parts}
use Rattle.hive_edit_laws.proofs.RowRevisions.{whole_found, read_found, steps_found}

-- a list around its element at an index, and without it
pub record Without (ws : List ℕ) (i x : ℕ) : Type 0 where
  pub first : List ℕ
  pub rest : List ℕ
  pub were : ws ≡ first ++ x ∷ rest
  pub are : without_at i ws ≡ first ++ rest

pub without : (ws : List ℕ) (i x : ℕ) → slice_get ws i ≡ Some x → Without ws i x
without [] i x e = some_none x e
without (w ∷ ws) zero x e = record { first = []; rest = ws; were = ap (λ (z : ℕ). z ∷ ws) (some_same w x e); are = refl }
without (w ∷ ws) (suc i) x e = let t = without ws i x e in record { first = w ∷ t.first; rest = t.rest; were = ap (λ (zs : List ℕ). w ∷ zs) t.were; are = ap (λ (zs : List ℕ). w ∷ zs) t.are }

module _ (split : Bool) (key at index moment : ℕ) (name : List ℕ) (before after : Cells) (parts : KeyParts Row) (s : Steps split key before parts) (once : Once parts.own) (there : (cell : ℕ) → IsIn cell parts.own → IsSome (before cell))
    (own lent : List ℕ) (value : Value) (reads : Gives (value_at split at) before own lent value) (named : folded value.name ≡ folded name) (c : DropsValue split before after key at index moment) where
  same_node : c.old_node ≡ s.node
  same_node = some_same c.old_node s.node (sym c.old_is ∙ s.here)

  cells_are : value_cells split before c.old_node ≡ s.vo
  cells_are = ap (value_cells split before) same_node ∙ ap (λ (z : Read ValueMap). z.own) (s.valued).reads

  once_so : Once (key ∷ (s.na ++ (s.co ++ (s.eo ++ (s.vo ++ s.ko)))))
  once_so = subst (λ (z : List ℕ). Once z) s.own_is once

  once_vo : Once s.vo
  once_vo = once_front s.vo s.ko (once_back s.eo (s.vo ++ s.ko) (once_back s.co (s.eo ++ (s.vo ++ s.ko)) (once_back s.na (s.co ++ (s.eo ++ (s.vo ++ s.ko))) once_so.1)))

  vo_there : (cell : ℕ) → IsIn cell s.vo → IsSome (before cell)
  vo_there cell i = there cell (subst (λ (z : List ℕ). IsIn cell z) (sym s.own_is) (inr (in_five s.na s.co s.eo s.vo s.ko cell i)))

  not_key : (cell : ℕ) → IsIn cell s.vo → cell ≢ key
  not_key cell i e = once_so.0 (subst (λ (z : ℕ). IsIn z (s.na ++ (s.co ++ (s.eo ++ (s.vo ++ s.ko))))) e (in_five s.na s.co s.eo s.vo s.ko cell i))

  none_lent : s.vl ≡ []
  none_lent = sym (ap (λ (z : Read ValueMap). z.lent) (s.valued).reads) ∙ none_values split (u32_at s.node 36) (u32_at s.node 40) before

  some_were : u32_at s.node 36 ≢ 0
  some_were e = (let k : u32_at c.old_node 36 ≡ suc (u32_at c.new_node 36) = c.count in let z : u32_at c.old_node 36 ≡ 0 = ap (λ (n : List ℕ). u32_at n 36) same_node ∙ e in absurd (omega (arith, z, k)))

  list_is : list_cells s.node ≡ u32_at s.node 40 ∷ []
  list_is = no_if (u32_at s.node 36 == 0) [] (u32_at s.node 40 ∷ []) (ne_eqb (u32_at s.node 36) 0 some_were)

  read : ValuesRead split before (u32_at s.node 36) (u32_at s.node 40) c.old_list s.vo s.vl (parts.row).values
  read = values_of split before (u32_at s.node 36) (u32_at s.node 40) c.old_list s.vo s.vl (parts.row).values
      (λ some. subst (λ (z : List ℕ). before (u32_at z 40) ≡ Some c.old_list) same_node c.old_list_is) s.valued

  -- the cells of the record, and of its data
  its_are : own ≡ at ∷ data_cells split before c.old_record
  its_are = by (value_parts split at before own lent value reads)
    where
      by : ValueParts split at before own lent value → own ≡ at ∷ data_cells split before c.old_record
      by v = v.own_is ∙ ap (λ (z : List ℕ). at ∷ data_cells split before z) (some_same v.bytes c.old_record (sym v.here ∙ c.old_record_is))

  module _ (r : ValuesRead split before (u32_at s.node 36) (u32_at s.node 40) c.old_list s.vo s.vl (parts.row).values) (t : Without (words_from c.old_list 0 4 (u32_at s.node 36)) index at) (h : Halves (value_at split) before t.first (at ∷ t.rest) r.its_own r.its_lent r.its)
      (k : EachSteps (value_at split) (local_value split) before after at t.rest h.own_w h.lent_w h.ws) where
    once_both : Once ((u32_at s.node 40 ∷ []) ++ r.its_own)
    once_both = subst (λ (z : List ℕ). Once z) (r.own_is ∙ ap (λ (z : List ℕ). z ++ r.its_own) list_is) once_vo

    its_in : (cell : ℕ) → IsIn cell r.its_own → IsIn cell s.vo
    its_in cell i = subst (λ (z : List ℕ). IsIn cell z) (sym r.own_is) (in_back cell (list_cells s.node) r.its_own i)

    list_in : IsIn (u32_at s.node 40) s.vo
    list_in = subst (λ (z : List ℕ). IsIn (u32_at s.node 40) z) (sym (r.own_is ∙ ap (λ (z : List ℕ). z ++ r.its_own) list_is)) (inl refl)

    -- the cells of the values before it, of it, and of those after it
    parts_are : r.its_own ≡ h.own_u ++ (k.own_first ++ k.own_next)
    parts_are = h.own_is ∙ ap (λ (z : List ℕ). h.own_u ++ z) k.own_is

    u_in : (cell : ℕ) → IsIn cell h.own_u → IsIn cell r.its_own
    u_in cell i = subst (λ (z : List ℕ). IsIn cell z) (sym parts_are) (in_front cell h.own_u (k.own_first ++ k.own_next) i)

    mine_in : (cell : ℕ) → IsIn cell k.own_first → IsIn cell r.its_own
    mine_in cell i = subst (λ (z : List ℕ). IsIn cell z) (sym parts_are) (in_back cell h.own_u (k.own_first ++ k.own_next) (in_front cell k.own_first k.own_next i))

    w_in : (cell : ℕ) → IsIn cell k.own_next → IsIn cell r.its_own
    w_in cell i = subst (λ (z : List ℕ). IsIn cell z) (sym parts_are) (in_back cell h.own_u (k.own_first ++ k.own_next) (in_back cell k.own_first k.own_next i))

    mine_are : k.own_first ≡ at ∷ data_cells split before c.old_record
    mine_are = sym (ap (λ (z : Read Value). z.own) (k.one).reads) ∙ ap (λ (z : Read Value). z.own) reads.reads ∙ its_are

    once_its : Once (h.own_u ++ (k.own_first ++ k.own_next))
    once_its = subst (λ (z : List ℕ). Once z) parts_are once_both.1

    its_stay : (cell : ℕ) → IsIn cell r.its_own → (IsIn cell k.own_first → ⊥) → after cell ≡ before cell
    its_stay cell i out = c.stays cell (vo_there cell (its_in cell i)) (not_key cell (its_in cell i))
        (λ e. once_both.0 (subst (λ (z : ℕ). IsIn z r.its_own) (e ∙ ap (λ (z : List ℕ). u32_at z 40) same_node) i))
        (λ e. out (subst (λ (z : List ℕ). IsIn cell z) (sym mine_are) (inl e)))
        (λ j. out (subst (λ (z : List ℕ). IsIn cell z) (sym mine_are) (inr j)))

    lent_none : h.lent_u ++ (k.lent_first ++ k.lent_next) ≡ []
    lent_none = ap (λ (z : List ℕ). h.lent_u ++ z) (sym k.lent_is) ∙ sym h.lent_is ∙ sym r.lent_is ∙ none_lent

    no_lent : (cell : ℕ) → IsIn cell (h.lent_u ++ (k.lent_first ++ k.lent_next)) → ⊥
    no_lent cell i = absurd (subst (λ (z : List ℕ). IsIn cell z) lent_none i)

    u_apart : (cell : ℕ) → IsIn cell h.own_u → IsIn cell k.own_first → ⊥
    u_apart cell i j = once_apart cell h.own_u (k.own_first ++ k.own_next) once_its i (in_front cell k.own_first k.own_next j)

    w_apart : (cell : ℕ) → IsIn cell k.own_next → IsIn cell k.own_first → ⊥
    w_apart cell i j = once_apart cell k.own_first k.own_next (once_back h.own_u (k.own_first ++ k.own_next) once_its) j i

    front : Gives (each (value_at split) t.first) after h.own_u h.lent_u h.us
    front = same_reading (each (value_at split) t.first) (local_each (local_value split) t.first) before after h.own_u h.lent_u h.us h.first (λ cell i. its_stay cell (u_in cell i) (u_apart cell i)) (λ cell i. absurd (no_lent cell (in_front cell h.lent_u (k.lent_first ++ k.lent_next) i)))

    back : Gives (each (value_at split) t.rest) after k.own_next k.lent_next k.zs
    back = same_reading (each (value_at split) t.rest) (local_each (local_value split) t.rest) before after k.own_next k.lent_next k.zs k.others (λ cell i. its_stay cell (w_in cell i) (w_apart cell i)) (λ cell i. absurd (no_lent cell (in_back cell h.lent_u (k.lent_first ++ k.lent_next) (in_back cell k.lent_first k.lent_next i))))

    all_now : Gives (each (value_at split) (t.first ++ t.rest)) after (h.own_u ++ k.own_next) (h.lent_u ++ k.lent_next) (h.us ++ k.zs)
    all_now = of_halves (value_at split) after t.first t.rest h.own_u k.own_next h.lent_u k.lent_next h.us k.zs front back

    words : words_from c.new_list 0 4 (u32_at c.new_node 36) ≡ t.first ++ t.rest
    words = c.listed ∙ ap (λ (z : List ℕ). without_at index (words_from c.old_list 0 4 (u32_at z 36))) same_node ∙ t.are

    were : r.its ≡ h.us ++ k.y ∷ k.zs
    were = h.are ∙ ap (λ (z : List Value). h.us ++ z) k.are

    apart_were : all_apart (map (λ (v : Value). folded v.name) (h.us ++ k.y ∷ k.zs)) ≡ true
    apart_were = subst (λ (vs : List Value). all_apart (map (λ (v : Value). folded v.name) vs) ≡ true) were r.apart

    apart_now : all_apart (map (λ (v : Value). folded v.name) (h.us ++ k.zs)) ≡ true
    apart_now = apart_without h.us k.zs k.y apart_were

    named_so : folded (k.y).name ≡ folded name
    named_so = ap (λ (v : Value). folded v.name) (gives_one (value_at split at) before k.own_first k.lent_first own lent k.y value k.one reads) ∙ named

    values_are : map_of (h.us ++ k.zs) ≡ values_without (parts.row).values name
    values_are = map_without h.us k.zs k.y name named_so apart_were ∙ ap (λ (m : ValueMap). values_without m name) (ap map_of (sym were) ∙ sym r.are)

    in_values : (cell : ℕ) → IsIn cell s.vo → IsIn cell (value_cells split before c.old_node)
    in_values cell i = subst (λ (z : List ℕ). IsIn cell z) (sym cells_are) i

    stays_now : (cell : ℕ) → IsSome (before cell) → cell ≢ key → (IsIn cell (value_cells split before c.old_node) → ⊥) → after cell ≡ before cell
    stays_now cell is nk out = c.stays cell is nk
        (λ e. out (in_values cell (subst (λ (z : ℕ). IsIn z s.vo) (sym (e ∙ ap (λ (z : List ℕ). u32_at z 40) same_node)) list_in)))
        (λ e. out (in_values cell (its_in cell (mine_in cell (subst (λ (z : List ℕ). IsIn cell z) (sym mine_are) (inl e))))))
        (λ j. out (in_values cell (its_in cell (mine_in cell (subst (λ (z : List ℕ). IsIn cell z) (sym mine_are) (inr j))))))

    -- if values are left
    module _ (some : u32_at c.new_node 36 ≢ 0) where
      abbrev new_own : List ℕ
      new_own = u32_at c.new_node 40 ∷ (h.own_u ++ k.own_next)

      some_lent : h.lent_u ++ k.lent_next ≡ []
      some_lent = none_in (h.lent_u ++ k.lent_next) (λ cell i. elim (in_either cell h.lent_u k.lent_next i) [
        | inl j ↦ no_lent cell (in_front cell h.lent_u (k.lent_first ++ k.lent_next) j)
        | inr j ↦ no_lent cell (in_back cell h.lent_u (k.lent_first ++ k.lent_next) (in_back cell k.lent_first k.lent_next j))
      ])

      read_some : Gives (values_at split (u32_at c.new_node 36) (u32_at c.new_node 40)) after new_own [] (values_without (parts.row).values name)
      read_some = record {
        reads = (values_some split after (u32_at c.new_node 36) (u32_at c.new_node 40) c.new_list (h.own_u ++ k.own_next) (h.lent_u ++ k.lent_next) (h.us ++ k.zs) some (c.new_list_is some) (c.long some)
            (subst (λ (ws : List ℕ). Gives (each (value_at split) ws) after (h.own_u ++ k.own_next) (h.lent_u ++ k.lent_next) (h.us ++ k.zs)) (sym words) all_now) apart_now).reads
            ∙ (λ i. record { own = new_own; lent = some_lent i; says = Ok (values_are i) });
      }

      left_in : (cell : ℕ) → IsIn cell (h.own_u ++ k.own_next) → IsIn cell r.its_own
      left_in cell i = elim (in_either cell h.own_u k.own_next i) [ inl j ↦ u_in cell j | inr j ↦ w_in cell j ]

      list_apart : IsIn (u32_at c.new_node 40) (h.own_u ++ k.own_next) → ⊥
      list_apart i = elim (c.list_takes some) [
        | inl e ↦ once_both.0 (subst (λ (z : ℕ). IsIn z r.its_own) (e ∙ ap (λ (z : List ℕ). u32_at z 40) same_node) (left_in (u32_at c.new_node 40) i))
        | inr e ↦ none_there (before (u32_at c.new_node 40)) (vo_there (u32_at c.new_node 40) (its_in (u32_at c.new_node 40) (left_in (u32_at c.new_node 40) i))) e
      ]

      once_some : Once new_own
      once_some = (list_apart, once_exchange h.own_u k.own_first k.own_next [] once_its tt (λ cell i. absurd i))

      takes_some : (cell : ℕ) → IsIn cell new_own → IsIn cell (value_cells split before c.old_node) ⊎ (before cell ≡ None)
      takes_some cell (inl e) = elim (c.list_takes some) [
        | inl j ↦ inl (in_values cell (subst (λ (z : ℕ). IsIn z s.vo) (sym (e ∙ j ∙ ap (λ (z : List ℕ). u32_at z 40) same_node)) list_in))
        | inr j ↦ inr (ap before e ∙ j)
      ]
      takes_some cell (inr i) = inl (in_values cell (its_in cell (left_in cell i)))

      pub by_some : ValuesChange split before after key (values_without (parts.row).values name) moment
      by_some = record {
        old_node = c.old_node;
        old_is = c.old_is;
        new_node = c.new_node;
        new_is = c.new_is;
        fields = c.fields;
        time_is = c.time_is;
        subkey_count = c.subkey_count;
        subkeys = c.subkeys;
        own = new_own;
        reads = read_some;
        once = once_some;
        takes = takes_some;
        stays = stays_now;
      }

    -- if none is left
    module _ (none : u32_at c.new_node 36 ≡ 0) where
      none_left : Gives (each (value_at split) []) after (h.own_u ++ k.own_next) (h.lent_u ++ k.lent_next) (h.us ++ k.zs)
      none_left = subst (λ (ws : List ℕ). Gives (each (value_at split) ws) after (h.own_u ++ k.own_next) (h.lent_u ++ k.lent_next) (h.us ++ k.zs)) (sym words ∙ ap (words_from c.new_list 0 4) none) all_now

      read_none : Gives (values_at split (u32_at c.new_node 36) (u32_at c.new_node 40)) after [] [] (values_without (parts.row).values name)
      read_none = record {
        reads = (values_empty split after (u32_at c.new_node 36) (u32_at c.new_node 40) c.new_list none).reads
            ∙ (λ i. record { own = []; lent = []; says = Ok ((ap map_of (none_are (value_at split) after (h.own_u ++ k.own_next) (h.lent_u ++ k.lent_next) (h.us ++ k.zs) none_left).2 ∙ values_are) i) });
      }

      pub by_none : ValuesChange split before after key (values_without (parts.row).values name) moment
      by_none = record {
        old_node = c.old_node;
        old_is = c.old_is;
        new_node = c.new_node;
        new_is = c.new_is;
        fields = c.fields;
        time_is = c.time_is;
        subkey_count = c.subkey_count;
        subkeys = c.subkeys;
        own = [];
        reads = read_none;
        once = tt;
        takes = λ cell i. absurd i;
        stays = stays_now;
      }

    by_parts : ValuesChange split before after key (values_without (parts.row).values name) moment
    by_parts = elim (eqb_tells (u32_at c.new_node 36) 0) [ inl e ↦ by_none e.1 | inr e ↦ by_some e.1 ]

  pub change : slice_get (words_from c.old_list 0 4 (u32_at c.old_node 36)) index ≡ Some at → ValuesChange split before after key (values_without (parts.row).values name) moment
  change listed =
      let t = without (words_from c.old_list 0 4 (u32_at s.node 36)) index at (subst (λ (z : List ℕ). slice_get (words_from c.old_list 0 4 (u32_at z 36)) index ≡ Some at) same_node listed) in
      let h = halves (value_at split) before t.first (at ∷ t.rest) read.its_own read.its_lent read.its (subst (λ (ws : List ℕ). Gives (each (value_at split) ws) before read.its_own read.its_lent read.its) t.were read.reads) in
      by_parts read t h (steps_of (value_at split) (local_value split) before after at t.rest h.own_w h.lent_w h.ws h.second)

pub removal : (bytes : List ℕ) (root minor : ℕ) (tree : TreeMap) (path : List (List ℕ)) (name : List ℕ) (key index at moment : ℕ) (f : ValueFound bytes root minor tree path (folded name) key index at) (after : Cells) → DropsValue (splits minor) f.in_key.cells after key at index moment →
    ValuesChange (splits minor) f.in_key.cells after key (values_without f.in_key.place.parts.row.values name) moment
removal bytes root minor tree path name key index at moment f after c =
    change (splits minor) key at index moment name f.in_key.cells after f.in_key.place.parts (steps_found bytes root minor tree path key f.in_key)
    (once_front f.in_key.place.parts.own (own_cells f.in_key.place.below) (whole_found bytes root minor tree path key f.in_key).once)
    (λ cell i. keys_there (splits minor) f.in_key.cells key f.in_key.place.parts (read_found bytes root minor tree path key f.in_key) cell (in_front cell f.in_key.place.parts.own f.in_key.place.parts.lent i))
    f.own f.lent f.value f.reads f.named c
    (listed_so (some_same f.node c.old_node (sym f.node_is ∙ c.old_is)))
  where
    listed_so : f.node ≡ c.old_node → slice_get (words_from c.old_list 0 4 (u32_at c.old_node 36)) index ≡ Some at
    listed_so same =
        let list_same : f.list ≡ c.old_list = some_same f.list c.old_list (sym f.list_is ∙ ap (λ (z : List ℕ). f.in_key.cells (u32_at z 40)) same ∙ c.old_list_is) in
        (λ i. slice_get (words_from (sym list_same i) 0 4 (u32_at (sym same i) 36)) index) ∙ f.listed
