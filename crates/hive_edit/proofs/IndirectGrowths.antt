-- A key's list of lists after one of its leaves, or a copy of it, got one more.
use Rattle.std.proofs.Common.{◌≡◌, ◌≢◌, ◌⊎◌, inl, inr, ℕ, zero, suc, ◌+◌, ◌*◌, ◌<◌, ◌≤◌, true, List, [], ◌∷◌, length, slice_get, is_some, None, Some, IsSome, refl, sym, ap, subst, ◌∙◌, arith}
use Rattle.hive_tree_model.specs.Lists.{IsIn, Once}
use Rattle.hive_tree_model.proofs.Basics.{some_none}
use Rattle.hive_cells.specs.Tiles.{Tiles, u32_at, cell_data, cell_size}
use Rattle.hive_cells.specs.Bins.{Cells, Shows}
use Rattle.hive_records.specs.Numbers.{u16_at, words_from}
use Rattle.hive_records.specs.Fields.{Gives}
use Rattle.hive_records.specs.Lists.{is_indirect, leaf_at, subkeys_at}
use Rattle.hive_edit_laws.specs.Shifts.{with_at, ShiftsIn}
use Rattle.hive_edit_laws.specs.Found.{LeafHas, IsListOfLists, list_words}
use Rattle.hive_edit_laws.proofs.CellsShown.{shown_here}
use Rattle.hive_edit_laws.proofs.CellWrites.{data_long}
use Rattle.hive_edit_laws.proofs.KeyPlaces.{none_there}
use Rattle.hive_edit_laws.proofs.LeafBytes.{leaf_more, leaves_one, lists_like}
use Rattle.hive_edit_laws.proofs.ListParts.{more_with, more_in_leaf, words_long}
use Rattle.hive_edit_laws.proofs.ListSearch.{around_index}
use Rattle.hive_edit_laws.proofs.RecordRooms.{list_long}
use Rattle.hive_edit_laws.proofs.SameBytes.{half_same}
use Rattle.hive_savepoint.specs.Puts.{HasData, Overlays, ChangesCell}
use Rattle.hive_edit.specs.Searches.{IsLeafAt}
use Rattle.hive_edit.specs.SubkeyPlaces.{IsShapeOf, ListGrown, GrowsList}
use Rattle.hive_edit.specs.LeafChanges.{GetsElement, PutsElement, FreesOldList, NamesLeaf, PutsLeaf}
use Rattle.hive_edit.specs.declared.key_lists.KeyList.{KeyList}
use Rattle.hive_edit.specs.declared.leaf_edit.LeafShape.{LeafShape}
use Rattle.hive_edit.specs.declared.leaf_insert.NewElement.{NewElement}
use Rattle.hive_edit.proofs.KeyListWrites.{word_put}
use Rattle.hive_edit.proofs.LeafInserts.{once_alone}
use Rattle.hive_edit.proofs.LeafLosses.{indirect_stride, elements_words}
use Rattle.hive_edit.proofs.LeavesReplaced.{word_swapped, top_is, leaf_apart, leaf_has, grown_by}

-- the word of a list of lists at an index
pub get_word : (bytes : List ℕ) (at index leaf : ℕ) (a : IsLeafAt bytes at index leaf) → slice_get (list_words (cell_data bytes at)) index ≡ Some leaf
get_word bytes at index leaf a = ap (λ (z : List ℕ). slice_get z index) (sym (elements_words (cell_data bytes at) a.list a.is (sym (a.is).indirect ∙ a.indirect))) ∙ a.here

index_less : (bytes : List ℕ) (from stride n i x : ℕ) → slice_get (words_from bytes from stride n) i ≡ Some x → i < n
index_less bytes from stride n i x e = by (words_from bytes from stride n) n i (words_long bytes from stride n) e
  where
    by : (ws : List ℕ) (n i : ℕ) → length ws ≡ n → slice_get ws i ≡ Some x → i < n
    by [] n i l e = some_none x e
    by (w ∷ ws) n zero l e = omega (arith, l)
    by (w ∷ ws) zero (suc i) l e = absurd (omega (arith, l))
    by (w ∷ ws) (suc n) (suc i) l e = let r : i < n = by ws n i (omega (arith, l)) e in omega (arith, r)

-- it is in the data
pub word_room : (bytes : List ℕ) (at index leaf : ℕ) → Tiles bytes → IsLeafAt bytes at index leaf → HasData bytes at (4 + 4 * (index + 1))
word_room bytes at index leaf tiles a = (
  a.holds.0,
  room index (u16_at (cell_data bytes at) 2) (length (cell_data bytes at)) (cell_size bytes at) (index_less (cell_data bytes at) 4 4 (u16_at (cell_data bytes at) 2) index leaf (get_word bytes at index leaf a))
      (subst (λ (k : ℕ). 4 + k * u16_at (cell_data bytes at) 2 ≤ length (cell_data bytes at)) (indirect_stride (cell_data bytes at) (sym (a.is).indirect ∙ a.indirect)) (list_long (cell_data bytes at) a.holds.1).1) (data_long bytes at tiles a.holds.0),
)
  where
    room : (index count len size : ℕ) → index < count → 4 + 4 * count ≤ len → len + 4 ≡ size → 4 + (4 + 4 * (index + 1)) ≤ size
    room index count len size less fits is = omega (arith, less, fits, is)

-- another word is written, or the same stays
pub leaf_put : (bytes new_bytes : List ℕ) (at index leaf to : ℕ) (text : List ℕ) → ChangesCell bytes new_bytes at (λ its now. Overlays its now (4 + 4 * index) text) → length text ≡ 4 → u32_at text 0 ≡ to → PutsLeaf bytes new_bytes at index leaf to
leaf_put bytes new_bytes at index leaf to text put four is before shows =
    let s = put.cells before shows in (
      s.0,
      s.1,
      s.2,
      (λ its here get. let d = s.3 its here in (d.0, d.1, named its d.0 get d.2)),
    )
  where
    named : (its now : List ℕ) → slice_get (list_words its) index ≡ Some leaf → Overlays its now (4 + 4 * index) text → NamesLeaf its now index to
    named its now get o =
        let count : u16_at now 2 ≡ u16_at its 2 = half_same its now 2 (o.before 2 (omega arith)) (o.before 3 (omega arith)) in
        record {
          len = o.len;
          letters = half_same its now 0 (o.before 0 (omega arith)) (o.before 1 (omega arith));
          count_is = count;
          words = ap (λ (n : ℕ). words_from now 4 4 n) count ∙ word_swapped its now 4 (u16_at its 2) index leaf to get (λ j low high. o.before j high) (word_put its now (4 + 4 * index) text o four ∙ is) (λ j low. o.after j (omega (arith, low, four)));
        }

pub leaf_same : (bytes : List ℕ) (at index leaf to : ℕ) → leaf ≡ to → PutsLeaf bytes bytes at index leaf to
leaf_same bytes at index leaf to e before shows = (
  before,
  shows,
  (λ cell other. refl),
  (λ its here get. (its, here, record { len = refl; letters = refl; count_is = refl; words = around_index (list_words its) index to (get ∙ ap Some e) })),
)

-- the leaf, or its copy, is read with one more
pub gets_leaf : (bytes : List ℕ) (leaf : ℕ) (shape : LeafShape) → IsShapeOf bytes leaf shape → (new : NewElement) → new.index ≤ shape.count → (before after : Cells) (mine : List ℕ) (to : ℕ) (now : List ℕ) → LeafHas before leaf mine → before leaf ≡ Some (cell_data bytes leaf) → after to ≡ Some now
    → GetsElement (cell_data bytes leaf) now shape.stride shape.count new.index new.offset → Gives (leaf_at to) after (to ∷ []) [] (with_at new.index new.offset mine)
gets_leaf bytes leaf shape shaped new most before after mine to now has here there gets =
    leaf_more before after leaf to mine old now new.index new.offset has here there gets.letters (gets.count_is ∙ ap suc shaped.count_is)
    (subst (λ (k : ℕ). 4 + k * suc (u16_at old 2) ≤ length now) shaped.stride_is (subst (λ (n : ℕ). 4 + shape.stride * suc n ≤ length now) shaped.count_is gets.long))
    (subst (λ (n : ℕ). new.index ≤ n) shaped.count_is most)
    (subst (λ (k : ℕ). ShiftsIn old now 4 k (u16_at old 2) new.index new.offset) shaped.stride_is (subst (λ (n : ℕ). ShiftsIn old now 4 shape.stride n new.index new.offset) shaped.count_is gets.shifts))
  where
    old : List ℕ
    old = cell_data bytes leaf

module _ (bytes first second new_bytes : List ℕ) (list : KeyList) (some : list.count ≢ 0) (index leaf : ℕ) (a : IsLeafAt bytes list.at index leaf) (shape : LeafShape) (shaped : IsShapeOf bytes leaf shape) (new : NewElement) (most : new.index ≤ shape.count) (to : ℕ)
    (put : PutsElement bytes first leaf shape new to) (writes : PutsLeaf first second list.at index leaf to) (frees : FreesOldList second new_bytes leaf to) where
  abbrev old : List ℕ
  old = cell_data bytes list.at

  indirect : is_indirect old ≡ true
  indirect = sym (a.is).indirect ∙ a.indirect

  get : slice_get (list_words old) index ≡ Some leaf
  get = get_word bytes list.at index leaf a

  module _ (before : Cells) (shows : Shows bytes before) (own lent its : List ℕ) (h : Gives (subkeys_at list.count list.at) before own lent its) (once : Once own) where
    here : before list.at ≡ Some old
    here = shown_here bytes before shows list.at a.holds.0

    leaf_here : before leaf ≡ Some (cell_data bytes leaf)
    leaf_here = shown_here bytes before shows leaf shaped.long.0

    at_leaf : list.at ≢ leaf
    at_leaf = leaf_apart before list.count list.at own lent its old h some here indirect once index leaf get

    abbrev mine : (its : List ℕ) × LeafHas before leaf its
    mine = leaf_has before list.count list.at own lent its old h some here indirect once index leaf get

    -- another cell that is there is none where the leaf is now
    not_to : (to ≡ leaf) ⊎ (before to ≡ None) → (cell : ℕ) → IsSome (before cell) → cell ≢ leaf → cell ≢ to
    not_to (inl e) cell there other same = other (same ∙ e)
    not_to (inr e) cell there other same = none_there (before cell) there (ap before same ∙ e)

    to_stays : (to ≡ leaf) ⊎ (before to ≡ None) → (to ≢ leaf) ⊎ (leaf ≡ to)
    to_stays (inl e) = inr (sym e)
    to_stays (inr e) = inl (λ same. none_there (before to) (ap is_some (ap before same ∙ leaf_here)) e)

    to_places : (to ≡ leaf) ⊎ (before to ≡ None) → (cell : ℕ) → IsIn cell (to ∷ []) → (cell ≡ leaf) ⊎ (before cell ≡ None)
    to_places (inl e) cell (inl i) = inl (i ∙ e)
    to_places (inr e) cell (inl i) = inr (ap before i ∙ e)
    to_places p cell (inr i) = absurd i

    top_like : (now : List ℕ) → NamesLeaf old now index to → IsListOfLists now
    top_like now n = (lists_like old now (u16_at old 2) was n.letters n.count_is (subst (λ (l : ℕ). 4 + 4 * u16_at old 2 ≤ l) (sym n.len) was.1)).0
      where
        was : IsListOfLists old
        was = top_is before list.count list.at own lent its old h some here indirect once index leaf get

    module _ (place : (to ≡ leaf) ⊎ (before to ≡ None)) (after : Cells) (now top : List ℕ) (there : after to ≡ Some now) (gets : GetsElement (cell_data bytes leaf) now shape.stride shape.count new.index new.offset) (top_there : after list.at ≡ Some top) (names : NamesLeaf old top index to)
        (others : (cell : ℕ) → IsSome (before cell) → cell ≢ list.at → cell ≢ leaf → after cell ≡ before cell) where
      at_to : list.at ≢ to
      at_to = not_to place list.at (ap is_some here) at_leaf

      grown : ListGrown before after list.count list.at list.at new.offset own its
      grown = grown_by before list.count list.at own lent its old h some here indirect once index leaf get after list.at top (to ∷ []) (with_at new.index new.offset mine.0 ∷ []) top_there (top_like top names) names.words
          (leaves_one after to (with_at new.index new.offset mine.0) (to ∷ [], [], gets_leaf bytes leaf shape shaped new most before after mine.0 to now mine.1 leaf_here there gets))
          others (inl refl) (to_places place) ((λ i. elim i [ inl e ↦ at_to e | inr j ↦ j ]), once_alone to) new.offset (λ us ws. more_in_leaf new.offset us ws mine.0 (with_at new.index new.offset mine.0) (more_with mine.0 new.index new.offset))

  pub grown_below : GrowsList bytes new_bytes list new.offset list.at
  grown_below before shows own lent its h once =
      let p = put before shows in
      let away : (cell : ℕ) → IsSome (before cell) → cell ≢ leaf → cell ≢ to = not_to before shows own lent its h once p.0 in
      let top_here : before list.at ≡ Some old = here before shows own lent its h once in
      let apart : list.at ≢ leaf = at_leaf before shows own lent its h once in
      let at_to : list.at ≢ to = away list.at (ap is_some top_here) apart in
      let w = writes p.1 p.2 in
      let d = w.3 old (p.3 list.at at_to ∙ top_here) get in
      let f = frees.cells w.0 w.1 in (
        f.0,
        f.1,
        grown before shows own lent its h once p.0 f.0 p.4 d.0
            (f.2 to (to_stays before shows own lent its h once p.0) ∙ w.2 to (λ e. at_to (sym e)) ∙ p.5) p.6
            (f.2 list.at (inl apart) ∙ d.1) d.2
            (λ cell there not_at not_leaf. f.2 cell (inl not_leaf) ∙ w.2 cell not_at ∙ p.3 cell (away cell there not_leaf)),
      )
