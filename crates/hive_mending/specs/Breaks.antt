-- Where cells of a damaged bin go on after a break. Offsets and sizes are in bytes.
use Rattle.std.specs.Prelude.{◌≡◌, ℕ, suc, ◌+◌, ◌%◌, ◌<◌, ◌≤◌, List}
use Rattle.hive_cells.specs.Tiles.{IsCell, cell_size}

-- a chain of so many cells runs from an offset, in a bin with this end: a cell, and the chain after it, up to the first
-- offset that is no cell
pub data Chain (bytes : List ℕ) (end : ℕ) : ℕ → ℕ → Type 0 where
  no_cell : (at : ℕ) → (¬ IsCell bytes end at) → Chain bytes end at 0
  more_cells : (at next count : ℕ) → IsCell bytes end at → next ≡ at + cell_size bytes at → Chain bytes end next count → Chain bytes end at (suc count)

-- cells go on at `next`. Of the places of 8 bytes from an offset up to the bin's end it is the first with the longest
-- chain of cells. It is the bin's end if no cell begins at any of them
pub record GoesOnAt (bytes : List ℕ) (end from next : ℕ) : Type 0 where
  pub after : from ≤ next
  pub within : next ≤ end
  pub eights : next % 8 ≡ 0
  pub count : ℕ
  pub chain : Chain bytes end next count
  pub none : count ≡ 0 → next ≡ end
  pub longest : (other others : ℕ) → from ≤ other → other < end → other % 8 ≡ 0 → Chain bytes end other others → others ≤ count
  pub first : (other others : ℕ) → from ≤ other → other < next → other % 8 ≡ 0 → Chain bytes end other others → 0 < count → others < count
