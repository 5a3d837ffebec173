-- A key's list of lists after one of its leaves was split.
use Rattle.std.proofs.Common.{◌≡◌, ◌≢◌, ◌⊎◌, inl, inr, ℕ, suc, ◌≤◌, true, false, List, [], ◌∷◌, ◌++◌, take, drop, slice_get, flat_map, is_some, Option, None, Some, IsSome, sym, ap, subst, ◌∙◌}
use Rattle.hive_tree_model.specs.Lists.{Once}
use Rattle.hive_tree_model.proofs.Basics.{clash}
use Rattle.hive_cells.specs.Tiles.{cell_data}
use Rattle.hive_cells.specs.Bins.{Cells, Shows}
use Rattle.hive_records.specs.Numbers.{u16_at, words_from}
use Rattle.hive_records.specs.Fields.{Gives}
use Rattle.hive_records.specs.Lists.{is_indirect, subkeys_at}
use Rattle.hive_records.specs.Heads.{stride_of}
use Rattle.hive_edit_laws.specs.Found.{LeafHas, IsLeaf, IsListOfLists, leaf_words, list_words}
use Rattle.hive_edit_laws.proofs.CellsShown.{shown_some, shown_here}
use Rattle.hive_edit_laws.proofs.KeyPlaces.{none_there}
use Rattle.hive_edit_laws.proofs.LeafBytes.{leaf_says, leaf_gives, leaves_one, leaves_join, lists_like}
use Rattle.hive_edit_laws.proofs.Shifts.{words_in}
use Rattle.hive_edit.specs.Searches.{IsLeafAt}
use Rattle.hive_edit.specs.SubkeyPlaces.{IsShapeOf}
use Rattle.hive_edit.specs.LeafChanges.{KeepsSizes, KeepsCells, GetsElement, PutsElement, FreesOldList, AreHalves, HalvesLeaf, ListKept, KeepsList}
use Rattle.hive_edit.specs.declared.key_lists.KeyList.{KeyList}
use Rattle.hive_edit.specs.declared.leaf_edit.LeafShape.{LeafShape}
use Rattle.hive_edit.specs.declared.leaf_insert.NewElement.{NewElement}
use Rattle.hive_edit.proofs.IndirectGrowths.{get_word}
use Rattle.hive_edit.proofs.LeafInserts.{once_alone, keeps_by, apart_from}
use Rattle.hive_edit.proofs.LeafLosses.{indirect_stride}
use Rattle.hive_edit.proofs.LeavesReplaced.{flat_two, with_next, top_is, leaf_apart, leaf_has, kept_by}

module _ (bytes mid next new_bytes : List ℕ) (list : KeyList) (some : list.count ≢ 0) (index leaf : ℕ) (a : IsLeafAt bytes list.at index leaf) (shape : LeafShape) (shaped : IsShapeOf bytes leaf shape) (second : ℕ) (halves : HalvesLeaf bytes mid leaf second)
    (lists : LeafShape) (lists_shaped : IsShapeOf mid list.at lists) (new : NewElement) (new_index : new.index ≡ suc index) (new_offset : new.offset ≡ second) (most : suc index ≤ lists.count) (made : ℕ) (put : PutsElement mid next list.at lists new made) (frees : FreesOldList next new_bytes list.at made) where
  abbrev top : List ℕ
  top = cell_data bytes list.at

  abbrev old : List ℕ
  old = cell_data bytes leaf

  top_indirect : is_indirect top ≡ true
  top_indirect = sym (a.is).indirect ∙ a.indirect

  get : slice_get (list_words top) index ≡ Some leaf
  get = get_word bytes list.at index leaf a

  module _ (before : Cells) (shows : Shows bytes before) (half : Cells) (half_shows : Shows mid half) (second_new : before second ≡ None) (others : (cell : ℕ) → cell ≢ leaf → cell ≢ second → half cell ≡ before cell) (front back : List ℕ) (front_there : half leaf ≡ Some front) (back_there : half second ≡ Some back) (at_leaf : list.at ≢ leaf)
      (place : (made ≡ list.at) ⊎ (half made ≡ None)) (third after : Cells) (now : List ℕ) (rest : (cell : ℕ) → cell ≢ made → third cell ≡ half cell) (now_third : third made ≡ Some now) (gets : GetsElement (cell_data mid list.at) now lists.stride lists.count new.index new.offset) (last : (cell : ℕ) → (cell ≢ list.at) ⊎ (list.at ≡ made) → after cell ≡ third cell) where
    here : before list.at ≡ Some top
    here = shown_here bytes before shows list.at a.holds.0

    leaf_here : before leaf ≡ Some old
    leaf_here = shown_here bytes before shows leaf shaped.long.0

    at_second : list.at ≢ second
    at_second e = none_there (before list.at) (ap is_some here) (ap before e ∙ second_new)

    leaf_second : leaf ≢ second
    leaf_second e = none_there (before leaf) (ap is_some leaf_here) (ap before e ∙ second_new)

    -- a cell that is there is none of the new ones
    apart_made : (cell : ℕ) → IsSome (half cell) → cell ≢ list.at → cell ≢ made
    apart_made cell there away e = elim place [
      | inl p ↦ away (e ∙ p)
      | inr p ↦ none_there (half cell) there (ap half e ∙ p)
    ]

    leaf_made : leaf ≢ made
    leaf_made = apart_made leaf (ap is_some front_there) (λ e. at_leaf (sym e))

    second_made : second ≢ made
    second_made = apart_made second (ap is_some back_there) (λ e. at_second (sym e))

    made_place : (made ≡ list.at) ⊎ (before made ≡ None)
    made_place = elim place [
      | inl p ↦ inl p
      | inr p ↦ inr (sym (others made (λ e. leaf_made (sym e)) (λ e. second_made (sym e))) ∙ p)
    ]

    below_stays : (cell : ℕ) → IsSome (before cell) → cell ≢ list.at → cell ≢ leaf → after cell ≡ before cell
    below_stays cell there not_at not_leaf =
        let same : half cell ≡ before cell = others cell not_leaf (λ e. none_there (before cell) there (ap before e ∙ second_new)) in
        last cell (inl not_at) ∙ rest cell (apart_made cell (subst (λ (o : Option (List ℕ)). IsSome o) (sym same) there) not_at) ∙ same

    now_there : after made ≡ Some now
    now_there = last made (elim place [
      | inl p ↦ inr (sym p)
      | inr p ↦ inl (λ e. none_there (half made) (ap is_some (ap half e ∙ others list.at at_leaf at_second ∙ here)) p)
    ]) ∙ now_third

    front_now : after leaf ≡ Some front
    front_now = last leaf (inl (λ e. at_leaf (sym e))) ∙ rest leaf leaf_made ∙ front_there

    back_now : after second ≡ Some back
    back_now = last second (inl (λ e. at_second (sym e))) ∙ rest second second_made ∙ back_there

    top_same : cell_data mid list.at ≡ top
    top_same = sym (shown_some mid half half_shows list.at top (others list.at at_leaf at_second ∙ here)).1

    stride_four : lists.stride ≡ 4
    stride_four = lists_shaped.stride_is ∙ ap stride_of top_same ∙ indirect_stride top top_indirect

    count_top : lists.count ≡ u16_at top 2
    count_top = lists_shaped.count_is ∙ ap (λ (z : List ℕ). u16_at z 2) top_same

    top_gets : GetsElement top now 4 (u16_at top 2) (suc index) second
    top_gets = subst (λ (x : ℕ). GetsElement top now 4 (u16_at top 2) (suc index) x) new_offset (subst (λ (i : ℕ). GetsElement top now 4 (u16_at top 2) i new.offset) new_index (subst (λ (n : ℕ). GetsElement top now 4 n new.index new.offset) count_top
        (subst (λ (k : ℕ). GetsElement top now k lists.count new.index new.offset) stride_four (subst (λ (z : List ℕ). GetsElement z now lists.stride lists.count new.index new.offset) top_same gets))))

    module _ (own lent its : List ℕ) (h : Gives (subkeys_at list.count list.at) before own lent its) (once : Once own) where
      abbrev mine : (its : List ℕ) × LeafHas before leaf its
      mine = leaf_has before list.count list.at own lent its top h some here top_indirect once index leaf get

      says : IsLeaf old × (mine.0 ≡ leaf_words old)
      says = leaf_says old before leaf leaf_here mine.0 mine.1

      like : IsListOfLists now × (list_words now ≡ words_from now 4 4 (suc (u16_at top 2)))
      like = lists_like top now (suc (u16_at top 2)) (top_is before list.count list.at own lent its top h some here top_indirect once index leaf get) top_gets.letters top_gets.count_is top_gets.long

      words_now : list_words now ≡ take index (list_words top) ++ leaf ∷ second ∷ drop (suc index) (list_words top)
      words_now = like.1 ∙ words_in top now 4 4 (u16_at top 2) (suc index) second (subst (λ (n : ℕ). suc index ≤ n) count_top most) top_gets.shifts ∙ with_next (list_words top) index leaf second get

      module _ (both : AreHalves old front back) where
        kept_below : ListKept before after list.count made own its
        kept_below = kept_by before list.count list.at own lent its top h some here top_indirect once index leaf get after made now (leaf ∷ second ∷ []) (leaf_words front ∷ leaf_words back ∷ []) now_there like.0 words_now
            (leaves_join after (leaf ∷ []) (second ∷ []) (leaf_words front ∷ []) (leaf_words back ∷ []) (leaves_one after leaf (leaf_words front) (leaf ∷ [], [], leaf_gives front after leaf front_now both.first_is)) (leaves_one after second (leaf_words back) (second ∷ [], [], leaf_gives back after second back_now both.second_is)))
            below_stays made_place
            (λ cell i. elim i [ inl e ↦ inl e | inr j ↦ elim j [ inl e ↦ inr (ap before e ∙ second_new) | inr k ↦ absurd k ] ])
            ((λ i. elim i [ inl e ↦ leaf_made (sym e) | inr j ↦ elim j [ inl e ↦ second_made (sym e) | inr k ↦ k ] ]), ((λ i. elim i [ inl e ↦ leaf_second e | inr j ↦ j ]), once_alone second))
            (λ us ws. flat_two us ws (leaf_words front) (leaf_words back) ∙ ap (λ (z : List ℕ). flat_map (λ (l : List ℕ). l) (us ++ z ∷ ws)) (sym (says.1 ∙ both.words)))

  pub below_kept : KeepsList bytes new_bytes list made
  below_kept before shows own lent its h once =
      let v = halves before shows in
      let p = put v.1 v.2 in
      let f = frees.cells p.1 p.2 in
      let top_here : before list.at ≡ Some top = shown_here bytes before shows list.at a.holds.0 in
      let apart : list.at ≢ leaf = leaf_apart before list.count list.at own lent its top h some top_here top_indirect once index leaf get in (
        f.0,
        f.1,
        kept_below before shows v.1 v.2 v.0 v.3 v.4 v.6 v.5 v.7 apart p.0 p.1 f.0 p.4 p.3 p.5 p.6 f.2 own lent its h once
            (v.8 (says before shows v.1 v.2 v.0 v.3 v.4 v.6 v.5 v.7 apart p.0 p.1 f.0 p.4 p.3 p.5 p.6 f.2 own lent its h once).0),
      )

  -- the list of lists is another cell than its leaf, since one is a list of lists
  pub below_cells : (cells : Cells) → Shows bytes cells → list.at ≢ leaf → KeepsSizes bytes new_bytes → KeepsCells bytes new_bytes
  below_cells before shows apart sizes =
      let v = halves before shows in
      let p = put v.1 v.2 in
      let f = frees.cells p.1 p.2 in
      keeps_by bytes new_bytes before f.0 shows f.1
      (λ cell bare there. below_stays before shows v.1 v.2 v.0 v.3 v.4 v.6 v.5 v.7 apart p.0 p.1 f.0 p.4 p.3 p.5 p.6 f.2 cell there (apart_from bytes list.at cell a.holds bare) (apart_from bytes leaf cell shaped.holds bare)) sizes

pub apart_kinds : (bytes : List ℕ) (at index leaf : ℕ) (shape : LeafShape) → IsLeafAt bytes at index leaf → IsShapeOf bytes leaf shape → shape.is_indirect ≡ false → at ≢ leaf
apart_kinds bytes at index leaf shape a shaped direct e = clash (is_indirect (cell_data bytes at)) (sym (a.is).indirect ∙ a.indirect) (ap (λ (z : ℕ). is_indirect (cell_data bytes z)) e ∙ sym shaped.indirect_is ∙ direct)
