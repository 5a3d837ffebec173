-- One value of a key that was found has changed: so have the key's values.
use Rattle.std.proofs.Common.{◌≡◌, ◌≢◌, ◌⊎◌, inl, inr, ℕ, zero, suc, ◌<◌, ◌≤◌, ◌+◌, List, [], ◌∷◌, ◌++◌, refl, ◌∙◌, ap, sym, subst, Bool, Ok, Some, None, IsSome, slice_get, arith}
use Rattle.reg_names.specs.Names.{folded}
use Rattle.reg_tree_parts.specs.declared.value.Value.{Value}
use Rattle.reg_tree_parts.specs.Rows.{Row, ValueMap}
use Rattle.reg_tree_parts.specs.ValueEdits.{values_with}
use Rattle.reg_tree.specs.Maps.{TreeMap}
use Rattle.hive_tree_model.specs.Lists.{IsIn, Once}
use Rattle.hive_tree_model.specs.Keys.{KeyParts, own_cells}
use Rattle.hive_tree_model.proofs.Basics.{some_same, some_none, ok_same, in_front, in_back, in_either, once_front, once_back}
use Rattle.hive_cells.specs.Tiles.{u32_at}
use Rattle.hive_cells.specs.Bins.{Cells}
use Rattle.hive_records.specs.Readers.{Read, Reader}
use Rattle.hive_records.specs.Numbers.{words_from}
use Rattle.hive_records.specs.Values.{value_at, values_at, map_of}
use Rattle.hive_records.specs.Fields.{Gives}
use Rattle.hive_records.specs.Images.{splits}
use Rattle.hive_records.proofs.Keys.{keys_there}
use Rattle.hive_load_parts.proofs.NoneLent.{none_values}
use Rattle.hive_edit_laws.specs.RecordEdits.{NodeTimeChanges, NodeListsChange}
use Rattle.hive_edit_laws.specs.ValueEdits.{value_cells, data_cells, ValuesChange, ValueChanges}
use Rattle.hive_edit_laws.specs.Found.{ValueFound}
use Rattle.hive_edit_laws.proofs.KeyPlaces.{none_there}
use Rattle.hive_edit_laws.proofs.SameBytes.{word_same}
use Rattle.hive_edit_laws.proofs.KeySteps.{Steps, in_five}
use Rattle.hive_edit_laws.proofs.KeyValues.{ValueSwap, value_swap, once_exchange}
use Rattle.hive_edit_laws.proofs.ValueRecords.{value_again}
use Rattle.hive_edit_laws.proofs.ValueMaps.{map_swap}
use Rattle.hive_edit_laws.proofs.RowRevisions.{whole_found, read_found, steps_found}

-- a list around its element at an index
pub record AtIndex {A : Type 0} (xs : List A) (i : ℕ) (x : A) : Type 0 where
  pub first : List A
  pub rest : List A
  pub is : xs ≡ first ++ x ∷ rest

pub at_its_index : {A : Type 0} (xs : List A) (i : ℕ) (x : A) → slice_get xs i ≡ Some x → AtIndex xs i x
at_its_index [] i x e = some_none x e
at_its_index (y ∷ ys) zero x e = record { first = []; rest = ys; is = ap (λ z. z ∷ ys) (some_same y x e) }
at_its_index (y ∷ ys) (suc i) x e = let p = at_its_index ys i x e in record { first = y ∷ p.first; rest = p.rest; is = ap (λ zs. y ∷ zs) p.is }

pub none_in : (xs : List ℕ) → ((cell : ℕ) → IsIn cell xs → ⊥) → xs ≡ []
none_in [] h = refl
none_in (x ∷ xs) h = absurd (h x (inl refl))

-- a reading gives one value
pub gives_one : {A : Type 0} (m : Reader A) (cells : Cells) (own lent more also : List ℕ) (x y : A) → Gives m cells own lent x → Gives m cells more also y → x ≡ y
gives_one {A} m cells own lent more also x y h g = ok_same x y (sym (ap (λ (z : Read A). z.says) h.reads) ∙ ap (λ (z : Read A). z.says) g.reads)

-- a node whose time alone is new
module _ (old new : List ℕ) (time : ℕ) (t : NodeTimeChanges old new time) where
  pub lists_change : NodeListsChange old new
  lists_change = record {
    len = t.len;
    before = t.before;
    cells = λ i h g. t.between i (omega (arith, h)) g;
    after = λ i h. t.after i (omega (arith, h));
  }

  pub word_stays : (n : ℕ) → 12 ≤ n → n + 3 < 52 → u32_at new n ≡ u32_at old n
  word_stays n h g = word_same old new n (t.between n h (omega (arith, g))) (t.between (n + 1) (omega (arith, h)) (omega (arith, g))) (t.between (n + 2) (omega (arith, h)) (omega (arith, g))) (t.between (n + 3) (omega (arith, h)) g)

module _ (split : Bool) (key at kind : ℕ) (value_bytes : List ℕ) (moment : ℕ) (name : List ℕ) (before after : Cells) (parts : KeyParts Row) (s : Steps split key before parts) (once : Once parts.own) (there : (cell : ℕ) → IsIn cell parts.own → IsSome (before cell))
    (list_bytes first rest : List ℕ) (list_is : before (u32_at s.node 40) ≡ Some list_bytes) (listed : words_from list_bytes 0 4 (u32_at s.node 36) ≡ first ++ at ∷ rest)
    (own lent : List ℕ) (value : Value) (reads : Gives (value_at split at) before own lent value) (named : folded value.name ≡ folded name) (c : ValueChanges split before after key at kind value_bytes moment) where
  same_node : c.old_node ≡ s.node
  same_node = some_same c.old_node s.node (sym c.old_node_is ∙ s.here)

  cells_are : value_cells split before c.old_node ≡ s.vo
  cells_are = ap (value_cells split before) same_node ∙ ap (λ (z : Read ValueMap). z.own) (s.valued).reads

  once_so : Once (key ∷ (s.na ++ (s.co ++ (s.eo ++ (s.vo ++ s.ko)))))
  once_so = subst (λ (z : List ℕ). Once z) s.own_is once

  once_vo : Once s.vo
  once_vo = once_front s.vo s.ko (once_back s.eo (s.vo ++ s.ko) (once_back s.co (s.eo ++ (s.vo ++ s.ko)) (once_back s.na (s.co ++ (s.eo ++ (s.vo ++ s.ko))) once_so.1)))

  own_in : (cell : ℕ) → IsIn cell s.vo → IsIn cell parts.own
  own_in cell i = subst (λ (z : List ℕ). IsIn cell z) (sym s.own_is) (inr (in_five s.na s.co s.eo s.vo s.ko cell i))

  not_key : (cell : ℕ) → IsIn cell s.vo → cell ≢ key
  not_key cell i e = once_so.0 (subst (λ (z : ℕ). IsIn z (s.na ++ (s.co ++ (s.eo ++ (s.vo ++ s.ko))))) e (in_five s.na s.co s.eo s.vo s.ko cell i))

  none_lent : s.vl ≡ []
  none_lent = sym (ap (λ (z : Read ValueMap). z.lent) (s.valued).reads) ∙ none_values split (u32_at s.node 36) (u32_at s.node 40) before

  abbrev now : List ℕ → Value
  now n = record { name = n; kind = kind; «data» = value_bytes }

  module _ (h : ValueSwap split (u32_at s.node 36) (u32_at s.node 40) at before after s.vo s.vl (parts.row).values) where
    its_lent_none : h.its_lent ≡ []
    its_lent_none = none_in h.its_lent (λ cell i. subst (λ (z : List ℕ). IsIn cell z) none_lent (h.lent_within cell i))

    new_value : (h.its_own ≡ at ∷ data_cells split before c.old_record) × Gives (value_at split at) after (at ∷ c.own) [] (now h.was.name)
    new_value = value_again split at before after h.its_own h.its_lent h.was c.old_record c.new_record c.own value_bytes kind c.old_record_is c.new_record_is c.record_fields c.reads h.one

    -- the cells of the value are among those of the values
    its_in : (cell : ℕ) → IsIn cell h.its_own → IsIn cell s.vo
    its_in cell i = subst (λ (z : List ℕ). IsIn cell z) (sym h.own_is) (inr (in_back cell h.front_own (h.its_own ++ h.back_own) (in_front cell h.its_own h.back_own i)))

    at_in : IsIn at h.its_own
    at_in = subst (λ (z : List ℕ). IsIn at z) (sym new_value.0) (inl refl)

    data_in : (cell : ℕ) → IsIn cell (data_cells split before c.old_record) → IsIn cell h.its_own
    data_in cell i = subst (λ (z : List ℕ). IsIn cell z) (sym new_value.0) (inr i)

    once_its : Once (at ∷ data_cells split before c.old_record)
    once_its = subst (λ (z : List ℕ). Once z) new_value.0 (once_front h.its_own h.back_own (once_back h.front_own (h.its_own ++ h.back_own) (subst (λ (z : List ℕ). Once z) h.own_is once_vo).1))

    abbrev new_own : List ℕ
    new_own = u32_at s.node 40 ∷ (h.front_own ++ ((at ∷ c.own) ++ h.back_own))

    again : Gives (values_at split (u32_at s.node 36) (u32_at s.node 40)) after new_own s.vl (map_of (h.front ++ now h.was.name ∷ h.back))
    again = h.again
        (λ cell i out. c.stays cell (there cell (own_in cell i)) (not_key cell i) (λ e. out (subst (λ (z : ℕ). IsIn z h.its_own) (sym e) at_in)) (λ j. out (data_in cell j)))
        (λ cell i. absurd (subst (λ (z : List ℕ). IsIn cell z) none_lent i))
        once_vo (now h.was.name) (at ∷ c.own) refl
        (subst (λ (z : List ℕ). Gives (value_at split at) after (at ∷ c.own) z (now h.was.name)) (sym its_lent_none) new_value.1)

    values_are : map_of (h.front ++ now h.was.name ∷ h.back) ≡ values_with (parts.row).values name kind value_bytes
    values_are = map_swap h.front h.was h.back name kind value_bytes (ap (λ (v : Value). folded v.name) (gives_one (value_at split at) before h.its_own h.its_lent own lent h.was value h.one reads) ∙ named) h.apart
        ∙ ap (λ (vs : ValueMap). values_with vs name kind value_bytes) (sym h.are)

    words : (n : ℕ) → 12 ≤ n → n + 3 < 52 → u32_at c.new_node n ≡ u32_at s.node n
    words n a b = word_stays c.old_node c.new_node moment c.node_fields n a b ∙ ap (λ (z : List ℕ). u32_at z n) same_node

    reads_now : Gives (values_at split (u32_at c.new_node 36) (u32_at c.new_node 40)) after new_own [] (values_with (parts.row).values name kind value_bytes)
    reads_now = record {
      reads = (λ i. values_at split (words 36 (omega arith) (omega arith) i) (words 40 (omega arith) (omega arith) i) after) ∙ again.reads ∙ (λ i. record { own = new_own; lent = none_lent i; says = Ok (values_are i) });
    }

    at_fresh : IsIn at c.own → ⊥
    at_fresh i = elim (c.takes at i) [
      | inl j ↦ once_its.0 j
      | inr j ↦ some_none c.old_record (sym j ∙ c.old_record_is)
    ]

    once_now : Once new_own
    once_now = once_exchange (u32_at s.node 40 ∷ h.front_own) h.its_own h.back_own (at ∷ c.own) (subst (λ (z : List ℕ). Once z) h.own_is once_vo) (at_fresh, c.once) from
      where
        from : (cell : ℕ) → IsIn cell (at ∷ c.own) → IsIn cell h.its_own ⊎ (IsIn cell (u32_at s.node 40 ∷ (h.front_own ++ (h.its_own ++ h.back_own))) → ⊥)
        from cell (inl e) = inl (subst (λ (z : ℕ). IsIn z h.its_own) (sym e) at_in)
        from cell (inr i) = elim (c.takes cell i) [
          | inl j ↦ inl (data_in cell j)
          | inr j ↦ inr (λ k. none_there (before cell) (there cell (own_in cell (subst (λ (z : List ℕ). IsIn cell z) (sym h.own_is) k))) j)
        ]

    in_values : (cell : ℕ) → IsIn cell s.vo → IsIn cell (value_cells split before c.old_node)
    in_values cell i = subst (λ (z : List ℕ). IsIn cell z) (sym cells_are) i

    old_in : (cell : ℕ) → IsIn cell (u32_at s.node 40 ∷ (h.front_own ++ (h.its_own ++ h.back_own))) → IsIn cell (value_cells split before c.old_node)
    old_in cell i = in_values cell (subst (λ (z : List ℕ). IsIn cell z) (sym h.own_is) i)

    takes_now : (cell : ℕ) → IsIn cell new_own → IsIn cell (value_cells split before c.old_node) ⊎ (before cell ≡ None)
    takes_now cell (inl e) = inl (old_in cell (inl e))
    takes_now cell (inr i) = elim (in_either cell h.front_own ((at ∷ c.own) ++ h.back_own) i) [
      | inl j ↦ inl (old_in cell (inr (in_front cell h.front_own (h.its_own ++ h.back_own) j)))
      | inr j ↦ elim (in_either cell (at ∷ c.own) h.back_own j) [
        | inl k ↦ mine k
        | inr k ↦ inl (old_in cell (inr (in_back cell h.front_own (h.its_own ++ h.back_own) (in_back cell h.its_own h.back_own k))))
      ]
    ]
      where
        mine : IsIn cell (at ∷ c.own) → IsIn cell (value_cells split before c.old_node) ⊎ (before cell ≡ None)
        mine (inl e) = inl (in_values cell (its_in cell (subst (λ (z : ℕ). IsIn z h.its_own) (sym e) at_in)))
        mine (inr k) = elim (c.takes cell k) [
          | inl l ↦ inl (in_values cell (its_in cell (data_in cell l)))
          | inr l ↦ inr l
        ]

    by_change : ValuesChange split before after key (values_with (parts.row).values name kind value_bytes) moment
    by_change = record {
      old_node = c.old_node;
      old_is = c.old_node_is;
      new_node = c.new_node;
      new_is = c.new_node_is;
      fields = lists_change c.old_node c.new_node moment c.node_fields;
      time_is = (c.node_fields).time_is;
      subkey_count = word_stays c.old_node c.new_node moment c.node_fields 20 (omega arith) (omega arith);
      subkeys = word_stays c.old_node c.new_node moment c.node_fields 28 (omega arith) (omega arith);
      own = new_own;
      reads = reads_now;
      once = once_now;
      takes = takes_now;
      stays = λ cell some nk out. c.stays cell some nk (λ e. out (in_values cell (its_in cell (subst (λ (z : ℕ). IsIn z h.its_own) (sym e) at_in)))) (λ j. out (in_values cell (its_in cell (data_in cell j))));
    }

  pub change : ValuesChange split before after key (values_with (parts.row).values name kind value_bytes) moment
  change = by_change (value_swap split (u32_at s.node 36) (u32_at s.node 40) at before after s.vo s.vl (parts.row).values list_bytes first rest list_is listed s.valued)

pub value_changes : (bytes : List ℕ) (root minor : ℕ) (tree : TreeMap) (path : List (List ℕ)) (name : List ℕ) (key index at kind : ℕ) (value_bytes : List ℕ) (moment : ℕ) (f : ValueFound bytes root minor tree path (folded name) key index at) (after : Cells) → ValueChanges (splits minor) f.in_key.cells after key at kind value_bytes moment →
    ValuesChange (splits minor) f.in_key.cells after key (values_with f.in_key.place.parts.row.values name kind value_bytes) moment
value_changes bytes root minor tree path name key index at kind value_bytes moment f after c = by (steps_found bytes root minor tree path key f.in_key) (at_its_index (words_from f.list 0 4 (u32_at f.node 36)) index at f.listed)
  where
    by : Steps (splits minor) key f.in_key.cells f.in_key.place.parts → AtIndex (words_from f.list 0 4 (u32_at f.node 36)) index at → ValuesChange (splits minor) f.in_key.cells after key (values_with f.in_key.place.parts.row.values name kind value_bytes) moment
    by s p =
        let same : f.node ≡ s.node = some_same f.node s.node (sym f.node_is ∙ s.here) in
        change (splits minor) key at kind value_bytes moment name f.in_key.cells after f.in_key.place.parts s
        (once_front f.in_key.place.parts.own (own_cells f.in_key.place.below) (whole_found bytes root minor tree path key f.in_key).once)
        (λ cell i. keys_there (splits minor) f.in_key.cells key f.in_key.place.parts (read_found bytes root minor tree path key f.in_key) cell (in_front cell f.in_key.place.parts.own f.in_key.place.parts.lent i))
        f.list p.first p.rest
        (subst (λ (z : List ℕ). f.in_key.cells (u32_at z 40) ≡ Some f.list) same f.list_is)
        (subst (λ (z : List ℕ). words_from f.list 0 4 (u32_at z 36) ≡ p.first ++ at ∷ p.rest) same p.is)
        f.own f.lent f.value f.reads f.named c
