-- The cells of a key that was found, freed.
use Rattle.std.proofs.Common.{◌≡◌, ◌≢◌, inl, inr, ℕ, suc, ◌+◌, ◌-◌, ◌*◌, ◌<◌, ◌==◌, ne_eqb, true, List, [], ◌∷◌, ◌++◌, flat_map, refl, sym, ap, subst, ◌∙◌, arith, append-nil}
use Rattle.std.proofs.lemmas.Grind.{flat_map-append}
use Rattle.reg_names.specs.Names.{folded}
use Rattle.reg_tree.specs.Maps.{TreeMap}
use Rattle.hive_tree_model.specs.Lists.{IsIn, Once}
use Rattle.hive_tree_model.proofs.Basics.{no_if, in_front, in_back, once_front, once_back, once_apart}
use Rattle.hive_cells.specs.Tiles.{IsAllocatedCell, u32_at, cell_data}
use Rattle.hive_cells.specs.Bins.{Cells}
use Rattle.hive_records.specs.Numbers.{words_from}
use Rattle.hive_records.specs.KeyNodes.{trail_in}
use Rattle.hive_edit_laws.specs.Found.{KeyFound, ValueFound, value_count, value_list, value_name, value_offset}
use Rattle.hive_edit_laws.specs.KeyCells.{class_cells, record_cells}
use Rattle.hive_edit_laws.specs.ValueEdits.{value_cells, data_cells}
use Rattle.hive_edit_laws.specs.SubkeyLists.{subkey_cells}
use Rattle.hive_edit_laws.proofs.CellsShown.{shown_here, shown_some}
use Rattle.hive_edit_laws.proofs.DataCells.{found_data}
use Rattle.hive_edit_laws.proofs.KeyCells.{own_kinds, own_values, own_trail, own_once, own_there}
use Rattle.hive_edit_laws.proofs.LeafBytes.{words_cut}
use Rattle.hive_edit_laws.proofs.ValueSearch.{value_there}
use Rattle.hive_edit.specs.DataPlaces.{IsDataPlace, FreesCells}
use Rattle.hive_edit.specs.SegmentCells.{data_cells_at}
use Rattle.hive_edit.specs.OwnCells.{FreesRecord, list_record_cells}
use Rattle.hive_edit.specs.ValueLists.{IsListOf}
use Rattle.hive_edit.specs.declared.node_edit.ValueList.{ValueList}
use Rattle.hive_edit.specs.declared.value_data.DataPlace.{DataPlace}
use Rattle.hive_edit.proofs.DataFrees.{shows_same, data_placed, places_kept}

-- cells are freed, and then others
pub both_freed : (old mid new first next all : List ℕ) → FreesCells old mid first → FreesCells mid new next → ((cell : ℕ) → IsIn cell first → IsIn cell all) → ((cell : ℕ) → IsIn cell next → IsIn cell all) → FreesCells old new all
both_freed old mid new first next all f g within also before shows =
    let s = f before shows in
    let t = g s.0 s.1 in (t.0, t.1, λ cell out. t.2 cell (λ i. out (also cell i)) ∙ s.2 cell (λ i. out (within cell i)))

module _ (bytes : List ℕ) (root : ℕ) (tree : TreeMap) (path : List (List ℕ)) (key : ℕ) (f : KeyFound bytes root 5 tree path key) where
  abbrev node : List ℕ
  node = cell_data bytes key

  abbrev count : ℕ
  count = value_count bytes key

  abbrev list : ℕ
  list = value_list bytes key

  abbrev upto : ℕ → List ℕ
  upto n = list_record_cells bytes f.cells list n

  abbrev values : List ℕ
  values = value_cells true f.cells node

  abbrev others : List ℕ
  others = subkey_cells f.cells node

  once_all : Once (key ∷ (class_cells node ++ (values ++ others)))
  once_all = subst (λ (z : List ℕ). Once z) (own_kinds bytes root 5 tree path key f) (own_once bytes root 5 tree path key f)

  once_values : Once values
  once_values = once_front values others (once_back (class_cells node) (values ++ others) once_all.1)

  there : (cell : ℕ) → IsIn cell values → IsAllocatedCell bytes cell
  there cell i = own_there bytes root 5 tree path key f cell (subst (λ (z : List ℕ). IsIn cell z) (sym (own_kinds bytes root 5 tree path key f)) (inr (in_back cell (class_cells node) (values ++ others) (in_front cell values others i))))

  -- a key with values has a list
  module _ (some : count ≢ 0) where
    are : values ≡ list ∷ upto count
    are = own_values bytes root 5 tree path key f ∙ ap (λ (z : List ℕ). z ++ upto count) (no_if (count == 0) [] (list ∷ []) (ne_eqb count 0 some))

    once_listed : Once (list ∷ upto count)
    once_listed = subst (λ (z : List ℕ). Once z) are once_values

    there_listed : (cell : ℕ) → IsIn cell (list ∷ upto count) → IsAllocatedCell bytes cell
    there_listed cell i = there cell (subst (λ (z : List ℕ). IsIn cell z) (sym are) i)

    pub list_freed : (mid new : List ℕ) → FreesCells bytes mid (upto count) → FreesCells mid new (list ∷ []) → FreesCells bytes new values
    list_freed mid new f_records f_list = subst (λ (z : List ℕ). FreesCells bytes new z) (sym are) (both_freed bytes mid new (upto count) (list ∷ []) (list ∷ upto count) f_records f_list (λ cell i. inr i) (λ cell i. elim i [ inl e ↦ inl e | inr j ↦ absurd j ]))

  -- the record at an index, after those before it were freed
  module _ (index : ℕ) (less : index < count) where
    abbrev at : ℕ
    at = value_offset bytes key index

    abbrev its : List ℕ
    its = data_cells true f.cells (cell_data bytes at)

    some_values : count ≢ 0
    some_values e = absurd (omega (arith, less, e))

    word_is : u32_at (cell_data bytes list) (0 + 4 * index) ≡ at
    word_is = ap (u32_at (cell_data bytes list)) (omega arith)

    abbrev rest : List ℕ
    rest = flat_map (λ (z : ℕ). record_cells true bytes f.cells z) (words_from (cell_data bytes list) (0 + 4 * index + 4) 4 (count - suc index))

    cut : upto count ≡ upto index ++ ((at ∷ its) ++ rest)
    cut = ap upto (omega (arith, less))
        ∙ ap (flat_map (λ (z : ℕ). record_cells true bytes f.cells z)) (words_cut (cell_data bytes list) 0 4 index (suc (count - suc index)))
        ∙ flat_map-append (λ (z : ℕ). record_cells true bytes f.cells z) (words_from (cell_data bytes list) 0 4 index) (words_from (cell_data bytes list) (0 + 4 * index) 4 (suc (count - suc index)))
        ∙ ap (λ (z : ℕ). upto index ++ (record_cells true bytes f.cells z ++ rest)) word_is

    next : upto (index + 1) ≡ upto index ++ (at ∷ its)
    next = ap (flat_map (λ (z : ℕ). record_cells true bytes f.cells z)) (words_cut (cell_data bytes list) 0 4 index 1)
        ∙ flat_map-append (λ (z : ℕ). record_cells true bytes f.cells z) (words_from (cell_data bytes list) 0 4 index) (words_from (cell_data bytes list) (0 + 4 * index) 4 1)
        ∙ ap (λ (z : ℕ). upto index ++ (record_cells true bytes f.cells z ++ [])) word_is
        ∙ ap (λ (z : List ℕ). upto index ++ z) (append-nil (at ∷ its))

    once_cut : Once (list ∷ (upto index ++ ((at ∷ its) ++ rest)))
    once_cut = subst (λ (z : List ℕ). Once (list ∷ z)) cut (once_listed some_values)

    there_cut : (cell : ℕ) → IsIn cell (list ∷ (upto index ++ ((at ∷ its) ++ rest))) → IsAllocatedCell bytes cell
    there_cut cell i = there_listed some_values cell (subst (λ (z : List ℕ). IsIn cell (list ∷ z)) (sym cut) i)

    in_cut : (cell : ℕ) → IsIn cell (at ∷ its) → IsIn cell (upto index ++ ((at ∷ its) ++ rest))
    in_cut cell i = in_back cell (upto index) ((at ∷ its) ++ rest) (in_front cell (at ∷ its) rest i)

    not_yet : (cell : ℕ) → IsIn cell (list ∷ at ∷ its) → IsIn cell (upto index) → ⊥
    not_yet cell (inl e) j = once_cut.0 (in_front list (upto index) ((at ∷ its) ++ rest) (subst (λ (z : ℕ). IsIn z (upto index)) e j))
    not_yet cell (inr i) j = once_apart cell (upto index) ((at ∷ its) ++ rest) once_cut.1 j (in_front cell (at ∷ its) rest i)

    its_placed : (place : DataPlace) → IsDataPlace (cell_data bytes at) place → its ≡ data_cells_at bytes at place
    its_placed place is = by (value_there bytes root 5 tree path key f index (folded (value_name (cell_data bytes at))) less refl)
      where
        by : ValueFound bytes root 5 tree path (folded (value_name (cell_data bytes at))) key index at → its ≡ data_cells_at bytes at place
        by v = ap (λ (z : Cells). data_cells true z (cell_data bytes at)) (shows_same bytes f.cells v.in_key.cells f.shows v.in_key.shows)
            ∙ data_placed bytes v.in_key.cells v.in_key.shows at (data_cells true v.in_key.cells (cell_data bytes at)) [] (v.value).«data» (found_data bytes root 5 tree path (folded (value_name (cell_data bytes at))) key index at v) place is

    module _ (now new : List ℕ) (freed : FreesCells bytes now (upto index)) (step : FreesRecord now new (u32_at (cell_data now list) (4 * index))) where
      same_data : (cell : ℕ) → IsIn cell (list ∷ at ∷ its) → cell_data bytes cell ≡ cell_data now cell
      same_data cell i =
          let s = freed f.cells f.shows in
          (shown_some now s.0 s.1 cell (cell_data bytes cell) (s.2 cell (not_yet cell i) ∙ shown_here bytes f.cells f.shows cell (there_cut cell (elim i [ inl e ↦ inl e | inr j ↦ inr (in_cut cell j) ])))).1

      its_step : FreesRecord now new at
      its_step = subst (λ (z : List ℕ). FreesRecord now new (u32_at z (4 * index))) (sym (same_data list (inl refl))) step

      freed_is : (at ∷ its) ≡ (at ∷ data_cells_at now at its_step.0)
      freed_is = ap (λ (z : List ℕ). at ∷ z) (places_kept bytes now at its (λ cell i. same_data cell (inr i)) its_step.0
          (its_placed its_step.0 (subst (λ (z : List ℕ). IsDataPlace z its_step.0) (sym (same_data at (inr (inl refl)))) its_step.1)))

      pub record_freed : FreesCells bytes new (upto (index + 1))
      record_freed = subst (λ (z : List ℕ). FreesCells bytes new z) (sym next)
          (both_freed bytes now new (upto index) (at ∷ data_cells_at now at its_step.0) (upto index ++ (at ∷ its)) freed its_step.2
          (λ cell i. in_front cell (upto index) (at ∷ its) i)
          (λ cell i. in_back cell (upto index) (at ∷ its) (subst (λ (z : List ℕ). IsIn cell z) (sym freed_is) i)))

  pub all_freed : (mid new : List ℕ) → FreesCells bytes mid values → FreesCells mid new (key ∷ class_cells node) → FreesCells bytes new (trail_in true f.cells key)
  all_freed mid new f_values f_node = subst (λ (z : List ℕ). FreesCells bytes new z) (sym (own_trail bytes root 5 tree path key f ∙ own_kinds bytes root 5 tree path key f))
      (both_freed bytes mid new values (key ∷ class_cells node) (key ∷ (class_cells node ++ (values ++ others))) f_values f_node
      (λ cell i. inr (in_back cell (class_cells node) (values ++ others) (in_front cell values others i)))
      (λ cell i. elim i [ inl e ↦ inl e | inr j ↦ inr (in_front cell (class_cells node) (values ++ others) j) ]))

-- the same of a list that was read from the node
module _ (bytes : List ℕ) (root : ℕ) (tree : TreeMap) (path : List (List ℕ)) (key : ℕ) (f : KeyFound bytes root 5 tree path key) (l : ValueList) (is : IsListOf bytes key l) where
  pub next_freed : (index : ℕ) → index < l.count → (now new : List ℕ) → FreesCells bytes now (list_record_cells bytes f.cells l.at index) → FreesRecord now new (u32_at (cell_data now l.at) (4 * index)) → FreesCells bytes new (list_record_cells bytes f.cells l.at (index + 1))
  next_freed index less now new freed step = subst (λ (z : ℕ). FreesCells bytes new (list_record_cells bytes f.cells z (index + 1))) (sym is.at)
      (record_freed bytes root tree path key f index (subst (λ (z : ℕ). index < z) is.count less) now new
      (subst (λ (z : ℕ). FreesCells bytes now (list_record_cells bytes f.cells z index)) is.at freed)
      (subst (λ (z : ℕ). FreesRecord now new (u32_at (cell_data now z) (4 * index))) is.at step))

  pub values_freed : l.count ≢ 0 → (mid new : List ℕ) → FreesCells bytes mid (list_record_cells bytes f.cells l.at l.count) → FreesCells mid new (l.at ∷ []) → FreesCells bytes new (value_cells true f.cells (cell_data bytes key))
  values_freed some mid new f_records f_list = list_freed bytes root tree path key f (subst (λ (z : ℕ). z ≢ 0) is.count some) mid new
      (subst (λ (z : ℕ). FreesCells bytes mid (list_record_cells bytes f.cells z (value_count bytes key))) is.at (subst (λ (z : ℕ). FreesCells bytes mid (list_record_cells bytes f.cells l.at z)) is.count f_records))
      (subst (λ (z : ℕ). FreesCells mid new (z ∷ [])) is.at f_list)
