-- Bytes written into the data of one cell, in terms of cells.
use Rattle.std.specs.Prelude.{◌≡◌, ℕ, ◌+◌, ◌<◌, ◌≤◌, List, ◌++◌, length, replicate, slice_index, Some, None}
use Rattle.hive_cells.specs.Tiles.{IsAllocatedCell, cell_size}
use Rattle.hive_cells.specs.Bins.{Cells, Shows}
use Rattle.hive_tree_model.specs.Cells.{SameBut}

-- an allocated cell begins at an offset, and its data have so many bytes at least
abbrev pub HasData : List ℕ → ℕ → ℕ → Type 0
HasData bytes at len = IsAllocatedCell bytes at × (4 + len ≤ cell_size bytes at)

-- bytes are in data from an offset on; all others are the old ones
pub record Overlays (old new : List ℕ) (from : ℕ) (bytes : List ℕ) : Type 0 where
  pub len : length new ≡ length old
  pub before : (i : ℕ) → i < from → slice_index new i ≡ slice_index old i
  pub after : (i : ℕ) → from + length bytes ≤ i → slice_index new i ≡ slice_index old i
  pub its : (i : ℕ) → i < length bytes → slice_index new (from + i) ≡ slice_index bytes i

-- bytes of data are moved within the data: `len` bytes from one offset to another
pub record Moves (old new : List ℕ) (from to len : ℕ) : Type 0 where
  pub same_length : length new ≡ length old
  pub before : (i : ℕ) → i < to → slice_index new i ≡ slice_index old i
  pub after : (i : ℕ) → to + len ≤ i → slice_index new i ≡ slice_index old i
  pub its : (i : ℕ) → i < len → slice_index new (to + i) ≡ slice_index old (from + i)

-- the data of the cell at an offset change as a relation says. All other cells stay, and all cells keep their sizes
pub record ChangesCell (old new : List ℕ) (at : ℕ) (how : List ℕ → List ℕ → Type 0) : Type 0 where
  pub cells : (before : Cells) → Shows old before → (after : Cells) × Shows new after × SameBut at before after
      × ((its : List ℕ) → before at ≡ Some its → (now : List ℕ) × (after at ≡ Some now) × how its now)
  pub sizes : (cell len : ℕ) → HasData old cell len → HasData new cell len

-- a new cell at an offset has these data, with zeros after them; all other cells stay and keep their sizes
pub record AddsCell (old new : List ℕ) (at : ℕ) (bytes : List ℕ) : Type 0 where
  pub cells : (before : Cells) → Shows old before → (before at ≡ None) × (after : Cells) × Shows new after × SameBut at before after
      × (zeros : ℕ) × (after at ≡ Some (bytes ++ replicate zeros 0))
  pub sizes : (cell len : ℕ) → HasData old cell len → HasData new cell len
  pub own_size : HasData new at (length bytes)

-- the cell at an offset is free; all other cells stay and keep their sizes
pub record DropsCell (old new : List ℕ) (at : ℕ) : Type 0 where
  pub cells : (before : Cells) → Shows old before → (after : Cells) × Shows new after × SameBut at before after × (after at ≡ None)
  pub sizes : (cell len : ℕ) → (cell ≡ at → ⊥) → HasData old cell len → HasData new cell len
