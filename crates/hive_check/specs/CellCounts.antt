-- The cells of hive bins data, counted; and where bins and cells don't tile them.
use Rattle.std.specs.Prelude.{◌≡◌, ◌≤◌, ℕ, ◌+◌, not, List, [], ◌∷◌, ◌++◌, length, filter, sum_by}
use Rattle.hive_tree_model.specs.Lists.{IsIn, Once}
use Rattle.hive_cells.specs.Tiles.{BeginsCell, BinStart, CellStart, IsBin, IsCell, bin_size, cell_size, is_allocated}
use Rattle.hive_check.specs.declared.cell_counts.CellCounts.{CellCounts}
use Rattle.hive_check.specs.declared.cell_counts.TileFault.{TileFault}
use Rattle.hive_check.specs.declared.cell_counts.TileFault.TheVariants as fault

-- these are the offsets at which the cells of the data begin, each once
pub record AreCells (bytes cells : List ℕ) : Type 0 where
  pub begin : (at : ℕ) → IsIn at cells → BeginsCell bytes at
  pub all : (at : ℕ) → BeginsCell bytes at → IsIn at cells
  pub once : Once cells

-- the free ones of some cells
abbrev pub free_cells : List ℕ → List ℕ → List ℕ
free_cells bytes cells = filter (λ at. not (is_allocated bytes at)) cells

-- some cells were counted in addition to others
pub record AddsCells (bytes : List ℕ) (old : CellCounts) (cells : List ℕ) (new : CellCounts) : Type 0 where
  pub all : new.all ≡ old.all + length cells
  pub free : new.free ≡ old.free + length (free_cells bytes cells)
  pub free_bytes : new.free_bytes ≡ old.free_bytes + sum_by (cell_size bytes) (free_cells bytes cells)

-- what was counted up to an offset is no more than it
pub record CountsFit (counts : CellCounts) (at : ℕ) : Type 0 where
  pub all : counts.all ≤ at
  pub free : counts.free ≤ at
  pub free_bytes : counts.free_bytes ≤ at

-- nothing counted
abbrev pub no_cells : CellCounts
no_cells = record { all = 0; free = 0; free_bytes = 0 }

-- the counts are those of all cells of the data
abbrev pub CellsAreCounted : List ℕ → CellCounts → Type 0
CellsAreCounted bytes counts = (cells : List ℕ) × AreCells bytes cells × AddsCells bytes no_cells cells counts

-- where a bin must begin, or a cell, none does: at an offset in a file whose bins data follow 4,096 bytes
abbrev pub IsTileFault : List ℕ → TileFault → Type 0
IsTileFault bytes (fault.Bin at) = (bin : ℕ) × (at ≡ 4096 + bin) × BinStart bytes bin × (¬ IsBin bytes bin)
IsTileFault bytes (fault.Cell at) = (end : ℕ) × (cell : ℕ) × (at ≡ 4096 + cell) × CellStart bytes end cell × (¬ IsCell bytes end cell)

-- ---- the cells one after another

-- the cells from an offset on, up to the end of their bin
pub data CellsFrom (bytes : List ℕ) (end : ℕ) : ℕ → List ℕ → Type 0 where
  bin_ends : CellsFrom bytes end end []
  cell_first : (at : ℕ) (cells : List ℕ) → IsCell bytes end at → CellsFrom bytes end (at + cell_size bytes at) cells → CellsFrom bytes end at (at ∷ cells)

-- the cells of the bins from an offset on, up to the end of the data
pub data BinsFrom (bytes : List ℕ) : ℕ → List ℕ → Type 0 where
  data_end : BinsFrom bytes (length bytes) []
  bin_first : (at : ℕ) (cells rest : List ℕ) → IsBin bytes at → CellsFrom bytes (at + bin_size bytes at) (at + 32) cells → BinsFrom bytes (at + bin_size bytes at) rest → BinsFrom bytes at (cells ++ rest)
