-- Where bins and cells begin: a mark for each 8 bytes of the data.
use Rattle.std.specs.Prelude.{◌≡◌, ◌≢◌, ℕ, ◌+◌, ◌*◌, ◌/◌, ◌%◌, ◌<◌, ◌≤◌, List, length, slice_index_or}
use Rattle.hive_cells.specs.Tiles.{BinStart, CellStart, IsBin, bin_size, IsCell, cell_size}

-- what begins at 8 bytes of the data: nothing, a bin, or a cell
pub data Mark : Type 0 where
  Inside : Mark
  Bin : Mark
  Cell : Mark

-- the mark of the k-th 8 bytes
abbrev pub mark_at : List Mark → ℕ → Mark
mark_at marks k = slice_index_or marks k Inside

-- what the marks up to an offset say of a bin
pub record BinMarked (bytes : List ℕ) (marks : List Mark) (upto k : ℕ) : Type 0 where
  pub sound : IsBin bytes (8 * k)
  pub whole : 8 * k + 32 ≤ upto
  pub header : (j : ℕ) → k < j → j < k + 4 → mark_at marks j ≡ Inside
  pub first_cell : 8 * k + 32 < upto → mark_at marks (k + 4) ≡ Cell
  pub alone : (j : ℕ) → k < j → 8 * j < 8 * k + bin_size bytes (8 * k) → mark_at marks j ≢ Bin
  pub behind : (j : ℕ) → 8 * j ≡ 8 * k + bin_size bytes (8 * k) → 8 * j < upto → mark_at marks j ≡ Bin

-- what they say of a cell
pub record CellMarked (bytes : List ℕ) (marks : List Mark) (upto k : ℕ) : Type 0 where
  pub sound : IsCell bytes upto (8 * k)
  pub inside : (j : ℕ) → k < j → 8 * j < 8 * k + cell_size bytes (8 * k) → mark_at marks j ≡ Inside
  pub behind : (j : ℕ) → 8 * j ≡ 8 * k + cell_size bytes (8 * k) → 8 * j < upto → mark_at marks j ≢ Inside

-- the bins and cells that begin before an offset are marked, they end at most there, and nothing else is marked
pub record IsMarkedTo (bytes : List ℕ) (marks : List Mark) (upto : ℕ) : Type 0 where
  pub len : length bytes ≡ 8 * length marks
  pub within : upto ≤ length bytes
  pub clear : (k : ℕ) → upto ≤ 8 * k → mark_at marks k ≡ Inside
  pub first : 0 < upto → mark_at marks 0 ≡ Bin
  pub bins : (k : ℕ) → mark_at marks k ≡ Bin → BinMarked bytes marks upto k
  pub cells : (k : ℕ) → mark_at marks k ≡ Cell → CellMarked bytes marks upto k

-- all bins and cells of data that they tile are marked
pub record IsMarked (bytes : List ℕ) (marks : List Mark) : Type 0 where
  pub pages : length bytes % 4096 ≡ 0
  pub all : IsMarkedTo bytes marks (length bytes)

-- a cell begins at a multiple of 8, is long enough for its size, and ends within the data
pub record IsWholeCell (bytes : List ℕ) (at : ℕ) : Type 0 where
  pub eights : at % 8 ≡ 0
  pub least : 8 ≤ cell_size bytes at
  pub within : at + cell_size bytes at ≤ length bytes

-- a cell is marked at an offset
pub record IsCellMarkedAt (marks : List Mark) (at : ℕ) : Type 0 where
  pub eights : at % 8 ≡ 0
  pub is_cell : mark_at marks (at / 8) ≡ Cell

-- the walk over the data is between two bins, at an offset
pub record IsBetweenBins (bytes : List ℕ) (marks : List Mark) (at : ℕ) : Type 0 where
  pub data_pages : length bytes % 4096 ≡ 0
  pub pages : at % 4096 ≡ 0
  pub marked : IsMarkedTo bytes marks at
  pub ended : (k : ℕ) → mark_at marks k ≡ Bin → 8 * k + bin_size bytes (8 * k) ≤ at
  pub starts : at < length bytes → BinStart bytes at

-- the walk is at an offset after the header of the bin that ends at `end`
pub record IsInBin (bytes : List ℕ) (marks : List Mark) (end at : ℕ) : Type 0 where
  pub bin : ℕ
  pub data_pages : length bytes % 4096 ≡ 0
  pub pages : end % 4096 ≡ 0
  pub eights : at % 8 ≡ 0
  pub marked : IsMarkedTo bytes marks at
  pub bin_is : mark_at marks bin ≡ Bin
  pub bin_starts : BinStart bytes (8 * bin)
  pub ends : end ≡ 8 * bin + bin_size bytes (8 * bin)
  pub behind_header : 8 * bin + 32 ≤ at
  pub before_end : at ≤ end
  pub starts : at < end → CellStart bytes end at
