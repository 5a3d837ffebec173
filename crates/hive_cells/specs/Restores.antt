-- Pages of data that were saved before they were written, so that the data can be put back as they were.
use Rattle.std.specs.Prelude.{◌≡◌, ◌⊎◌, ℕ, ◌+◌, ◌*◌, ◌/◌, ◌<◌, ◌≤◌, List, length, slice_index}
use Rattle.hive_cells.specs.Tiles.{Tiles}

-- a page is the k-th of a list
abbrev pub IsAt : List ℕ → ℕ → ℕ → Type 0
IsAt order k page = (k < length order) × (slice_index order k ≡ page)

-- a page is one of a list
abbrev pub HasPage : List ℕ → ℕ → Type 0
HasPage order page = (k : ℕ) × IsAt order k page

-- the bytes of saved pages, one after another, are those of the old data
abbrev pub Keeps : List ℕ → List ℕ → List ℕ → Type 0
Keeps old order saved = (k j : ℕ) → k < length order → j < 512 → slice_index saved (512 * k + j) ≡ slice_index old (512 * slice_index order k + j)

-- each byte of the old data is as it was, or its page is saved
pub record IsSaved (old now order saved : List ℕ) : Type 0 where
  pub longer : length old ≤ length now
  pub whole : (k : ℕ) → k < length order → 512 * slice_index order k + 512 ≤ length old
  pub sizes : length saved ≡ 512 * length order
  pub kept : Keeps old order saved
  pub same : (i : ℕ) → i < length old → (slice_index now i ≡ slice_index old i) ⊎ HasPage order (i / 512)

-- saved pages lead back to old data of a length, which bins and cells tile
pub record Restores (old now order saved : List ℕ) (size : ℕ) : Type 0 where
  pub tiles : Tiles old
  pub len : length old ≡ size
  pub is_saved : IsSaved old now order saved
