-- The cells of data in segments, and how they are freed.
use Rattle.std.specs.Prelude.{◌≡◌, ℕ, List, [], ◌∷◌}
use Rattle.hive_edit.specs.declared.value_data.DataPlace.{DataPlace}
use Rattle.hive_edit.specs.declared.value_data.DataPlace.TheVariants.{InRecord, InCell, InSegments}
use Rattle.hive_tree_model.specs.Lists.{IsIn}
use Rattle.hive_cells.specs.Tiles.{u32_at, cell_data}
use Rattle.hive_cells.specs.Bins.{Cells, Shows}
use Rattle.hive_records.specs.Numbers.{words_from}
use Rattle.hive_records.specs.Values.{segments_of}

-- the offsets in a list of segments
abbrev pub segment_words : List ℕ → ℕ → ℕ → List ℕ
segment_words bytes list count = words_from (cell_data bytes list) 0 4 count

-- the cells of data of a size that a db leads to: the db, its list, and the segments
abbrev pub segment_cells : List ℕ → ℕ → ℕ → List ℕ
segment_cells bytes db size = db ∷ u32_at (cell_data bytes db) 4 ∷ segment_words bytes (u32_at (cell_data bytes db) 4) (segments_of size)

-- the same of the value whose record is at an offset
abbrev pub record_segments : List ℕ → ℕ → List ℕ
record_segments bytes at = segment_cells bytes (u32_at (cell_data bytes at) 8) (u32_at (cell_data bytes at) 4)

-- of two images' cells only these differ, and one stays
abbrev pub FreesButKeeps : List ℕ → List ℕ → List ℕ → ℕ → Type 0
FreesButKeeps old_bytes new_bytes cells kept = (before : Cells) → Shows old_bytes before → (after : Cells) × Shows new_bytes after × ((cell : ℕ) → (IsIn cell cells → ⊥) → after cell ≡ before cell) × (after kept ≡ before kept)

-- the cells of the data of the value whose record is at an offset, by the place of the data
abbrev pub data_cells_at : List ℕ → ℕ → DataPlace → List ℕ
data_cells_at bytes at (InSegments db size) = record_segments bytes at
data_cells_at bytes at InRecord = []
data_cells_at bytes at (InCell its room) = its ∷ []
