-- Data in segments, freed.
use Rattle.std.proofs.Common.{◌≡◌, inl, inr, ℕ, zero, suc, ◌+◌, ◌*◌, ◌<◌, List, [], ◌∷◌, refl, sym, ap, subst, ◌∙◌, arith}
use Rattle.hive_tree_model.specs.Lists.{IsIn}
use Rattle.hive_cells.specs.Tiles.{IsAllocatedCell, u32_at, cell_data}
use Rattle.hive_records.specs.Numbers.{words_from}
use Rattle.hive_edit_laws.proofs.CellsShown.{shown_here, shown_some}
use Rattle.hive_savepoint.specs.Puts.{DropsCell}
use Rattle.hive_edit.specs.DataPlaces.{FreesCells}
use Rattle.hive_records.specs.Values.{segments_of}
use Rattle.hive_edit.specs.SegmentCells.{segment_words, segment_cells, record_segments, FreesButKeeps}

pub word_is_in : (xs : List ℕ) (from n i : ℕ) → i < n → IsIn (u32_at xs (from + 4 * i)) (words_from xs from 4 n)
word_is_in xs from zero i h = absurd (omega (arith, h))
word_is_in xs from (suc n) zero h = inl (ap (u32_at xs) (omega arith))
word_is_in xs from (suc n) (suc i) h = inr (subst (λ (z : ℕ). IsIn (u32_at xs z) (words_from xs (from + 4) 4 n)) (omega arith) (word_is_in xs (from + 4) n i (omega (arith, h))))

pub none_yet : (bytes cells : List ℕ) (kept : ℕ) → FreesButKeeps bytes bytes cells kept
none_yet bytes cells kept before shows = (before, shows, (λ cell apart. refl), refl)

pub one_more : (old now new : List ℕ) (list count index word : ℕ) → FreesButKeeps old now (segment_words old list count) list → IsAllocatedCell now list → word ≡ u32_at (cell_data now list) (4 * index) → index < count → (word ≡ list → ⊥) → DropsCell now new word →
    FreesButKeeps old new (segment_words old list count) list
one_more old now new list count index word f there is less apart drops before shows =
    let s = f before shows in
    let t = drops.cells s.0 s.1 in
    let here = sym s.3 ∙ shown_here now s.0 s.1 list there in
    let same : cell_data now list ≡ cell_data old list = (shown_some old before shows list (cell_data now list) here).1 in
    let is_in : IsIn word (segment_words old list count) = subst (λ (z : ℕ). IsIn z (segment_words old list count)) (sym (is ∙ ap (λ (z : List ℕ). u32_at z (4 * index)) same)) (subst (λ (z : ℕ). IsIn (u32_at (cell_data old list) z) (segment_words old list count)) (omega arith) (word_is_in (cell_data old list) 0 count index less)) in (
      t.0,
      t.1,
      (λ cell no. t.2 cell (λ e. no (subst (λ (z : ℕ). IsIn z (segment_words old list count)) (sym e) is_in)) ∙ s.2 cell no),
      t.2 list (λ e. apart (sym e)) ∙ s.3,
    )

pub only_frees : (old new cells : List ℕ) (kept : ℕ) → FreesButKeeps old new cells kept → FreesCells old new cells
only_frees old new cells kept f before shows = let s = f before shows in (s.0, s.1, s.2)

pub big_freed : (old mid new : List ℕ) (db size list : ℕ) → list ≡ u32_at (cell_data old db) 4 → FreesCells old mid (segment_words old list (segments_of size)) → FreesCells mid new (db ∷ list ∷ []) → FreesCells old new (segment_cells old db size)
big_freed old mid new db size list list_is f g = subst (λ (z : List ℕ). FreesCells old new z) (ap (λ (l : ℕ). db ∷ l ∷ segment_words old l (segments_of size)) list_is) all
  where
    front : (cell : ℕ) → IsIn cell (db ∷ list ∷ []) → IsIn cell (db ∷ list ∷ segment_words old list (segments_of size))
    front cell (inl e) = inl e
    front cell (inr (inl e)) = inr (inl e)
    front cell (inr (inr e)) = absurd e

    all : FreesCells old new (db ∷ list ∷ segment_words old list (segments_of size))
    all before shows =
        let s = f before shows in
        let t = g s.0 s.1 in (t.0, t.1, λ cell no. t.2 cell (λ i. no (front cell i)) ∙ s.2 cell (λ i. no (inr (inr i))))

pub record_freed : (old mid new : List ℕ) (at size db : ℕ) → size ≡ u32_at (cell_data old at) 4 → db ≡ u32_at (cell_data old at) 8 → FreesCells old mid (segment_cells old db size) → FreesCells mid new (at ∷ []) → FreesCells old new (at ∷ record_segments old at)
record_freed old mid new at size db size_is db_is f g = subst (λ (z : List ℕ). FreesCells old new (at ∷ z)) (λ i. segment_cells old (db_is i) (size_is i)) all
  where
    all : FreesCells old new (at ∷ segment_cells old db size)
    all before shows =
        let s = f before shows in
        let t = g s.0 s.1 in (t.0, t.1, λ cell no. t.2 cell (λ i. elim i [ inl e ↦ no (inl e) | inr e ↦ e ]) ∙ s.2 cell (λ i. no (inr i)))
