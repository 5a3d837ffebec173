-- The cells of a value's data, by the place of the data, in an image and in a later one.
use Rattle.std.proofs.Common.{◌≡◌, inl, inr, ℕ, true, List, [], ◌∷◌, refl, sym, ap, subst, ◌∙◌, Option, Some, None, MatchOption}
use Rattle.hive_tree_model.specs.Lists.{IsIn}
use Rattle.hive_cells.specs.Tiles.{IsAllocatedCell, u32_at, cell_data}
use Rattle.hive_cells.specs.Bins.{Cells, Shows}
use Rattle.hive_records.specs.Fields.{Gives}
use Rattle.hive_records.specs.Numbers.{words_from}
use Rattle.hive_records.specs.Values.{segments_of, data_of}
use Rattle.hive_edit_laws.proofs.DataCells.{none_outside, none_empty, one_cell, many_cells}
use Rattle.hive_edit.specs.DataPlaces.{IsDataPlace}
use Rattle.hive_edit.specs.SegmentCells.{segment_cells, record_segments, data_cells_at}
use Rattle.hive_edit.specs.declared.value_data.DataPlace.{DataPlace}
use Rattle.hive_edit.specs.declared.value_data.DataPlace.TheVariants.{InRecord, InCell, InSegments}

-- data show one reader
pub shows_same : (bytes : List ℕ) (cells others : Cells) → Shows bytes cells → Shows bytes others → cells ≡ others
shows_same bytes cells others shows other_shows = λ i at. same at (cells at) (others at) (shows at) (other_shows at) i
  where
    same : (at : ℕ) (o p : Option (List ℕ)) → MatchOption o (¬ IsAllocatedCell bytes at) (λ its. IsAllocatedCell bytes at × (its ≡ cell_data bytes at)) → MatchOption p (¬ IsAllocatedCell bytes at) (λ its. IsAllocatedCell bytes at × (its ≡ cell_data bytes at)) → o ≡ p
    same at None None h g = refl
    same at None (Some y) h g = absurd (h g.0)
    same at (Some x) None h g = absurd (g h.0)
    same at (Some x) (Some y) h g = ap Some (h.1 ∙ sym g.1)

-- the cells that data are read from are those of their place
pub data_placed : (bytes : List ℕ) (cells : Cells) → Shows bytes cells → (at : ℕ) (own lent text : List ℕ) → Gives (data_of true (u32_at (cell_data bytes at) 4) (cell_data bytes at)) cells own lent text → (place : DataPlace) → IsDataPlace (cell_data bytes at) place → own ≡ data_cells_at bytes at place
data_placed bytes cells shows at own lent text reads InRecord (inl h) = none_outside true bytes cells shows (cell_data bytes at) own lent text reads h
data_placed bytes cells shows at own lent text reads InRecord (inr h) = none_empty true bytes cells shows (cell_data bytes at) own lent text reads h
data_placed bytes cells shows at own lent text reads (InCell to room) h = one_cell true bytes cells shows (cell_data bytes at) own lent text reads h.1 h.0 (λ _. h.2) ∙ ap (λ z. z ∷ []) h.3
data_placed bytes cells shows at own lent text reads (InSegments to size) h = many_cells true bytes cells shows (cell_data bytes at) own lent text reads refl h.1 h.0

-- as long as the record and these cells stay
module _ (bytes mid : List ℕ) (at : ℕ) (own : List ℕ) (same : (cell : ℕ) → IsIn cell (at ∷ own) → cell_data bytes cell ≡ cell_data mid cell) where
  segments_kept : own ≡ record_segments bytes at → record_segments bytes at ≡ record_segments mid at
  segments_kept are =
      let db = u32_at (cell_data bytes at) 8 in
      let list = u32_at (cell_data bytes db) 4 in
      let count = segments_of (u32_at (cell_data bytes at) 4) in
      let record_is = same at (inl refl) in
      let db_is = same db (inr (subst (λ (z : List ℕ). IsIn db z) (sym are) (inl refl))) in
      let list_is = same list (inr (subst (λ (z : List ℕ). IsIn list z) (sym are) (inr (inl refl)))) in
      ap (λ (z : List ℕ). db ∷ list ∷ words_from z 0 4 count) list_is
      ∙ ap (λ (z : List ℕ). db ∷ u32_at z 4 ∷ words_from (cell_data mid (u32_at z 4)) 0 4 count) db_is
      ∙ ap (λ (z : List ℕ). segment_cells mid (u32_at z 8) (u32_at z 4)) record_is

  pub places_kept : (place : DataPlace) → own ≡ data_cells_at bytes at place → own ≡ data_cells_at mid at place
  places_kept InRecord e = e
  places_kept (InCell to room) e = e
  places_kept (InSegments to size) e = e ∙ segments_kept e
