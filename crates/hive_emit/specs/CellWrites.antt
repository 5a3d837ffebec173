-- What writing makes of an image: cells that were not there, beside those that stay; and what it takes of the free
-- room.
use Rattle.std.specs.Prelude.{◌≡◌, ◌⊎◌, ℕ, ◌+◌, ◌<◌, ◌≤◌, List, [], ◌∷◌, length, flat_map, Some, IsSome}
use Rattle.std.specs.List.{AllByRecursion}
use Rattle.refusals.specs.declared.refusal.Refusal.{Refusal}
use Rattle.refusals.specs.declared.refusal.Refusal.TheVariants as refusal
use Rattle.refusals.specs.declared.limits.TheConstants.{MOST_BINS_BYTES}
use Rattle.hive_cells.specs.Tiles.{IsFreeCell, IsAllocatedCell, cell_size}
use Rattle.hive_cells.specs.Bins.{Cells, Shows}
use Rattle.hive_cells.specs.Changes.{least_size}
use Rattle.hive_tree_model.specs.Lists.{IsIn, Once}
use Rattle.hive_tree_model.specs.Cells.{Grows, AreNew, SameBut}
use Rattle.hive_records.specs.Numbers.{nil_offset}
use Rattle.hive_records.specs.Fields.{CellHolds}

-- cells of data come beside those that are there, which stay; and something holds of the cells before and after
pub record Makes (old new : List ℕ) (Made : Cells → Cells → Type 0) : Type 0 where
  pub cells : (before : Cells) → Shows old before → (after : Cells) × Shows new after × Grows before after × Made before after
  pub longer : length old ≤ length new

-- cells that were not there are there, none of them twice
pub record Adds (before after : Cells) (own : List ℕ) : Type 0 where
  pub once : Once own
  pub fresh : AreNew before own
  pub there : (cell : ℕ) → IsIn cell own → IsSome (after cell)

-- a cell that was not there has room for data of a length
pub record Opens (at len : ℕ) (before after : Cells) : Type 0 where
  pub adds : Adds before after (at ∷ [])
  pub its : List ℕ
  pub is : after at ≡ Some its
  pub long : len ≤ length its
  pub near : at < nil_offset

-- a cell that was not there has given bytes
pub record Puts (at : ℕ) (encoding : List ℕ) (before after : Cells) : Type 0 where
  pub adds : Adds before after (at ∷ [])
  pub holds : CellHolds after at encoding
  pub near : at < nil_offset

-- an allocated cell begins at an offset, and has room for data of a length
abbrev pub IsLongCell : List ℕ → ℕ → ℕ → Type 0
IsLongCell bytes at len = IsAllocatedCell bytes at × (4 + len ≤ cell_size bytes at)

-- data within the limit have one free cell, at an offset, which has some room and more than 8 bytes beside
pub record HasFreeRoomAt (bytes : List ℕ) (at room : ℕ) : Type 0 where
  pub limit : length bytes ≤ MOST_BINS_BYTES
  pub free : IsFreeCell bytes at
  pub long : room + 8 < cell_size bytes at
  pub only : (other : ℕ) → IsFreeCell bytes other → other ≡ at

abbrev pub HasFreeRoom : List ℕ → ℕ → Type 0
HasFreeRoom bytes room = (at : ℕ) × HasFreeRoomAt bytes at room

-- at most a number of bytes of the room are used: if there was room for them and for more, there is room for those more
abbrev pub Uses : List ℕ → List ℕ → ℕ → Type 0
Uses old new cost = (more : ℕ) → HasFreeRoom old (cost + more) → HasFreeRoom new more

-- a cell is taken from the front of the free one, and a number of bytes of it are used
abbrev pub Lands : List ℕ → List ℕ → ℕ → ℕ → Type 0
Lands old new at cost = (front more : ℕ) → HasFreeRoomAt old front (cost + more) → (at ≡ front) × HasFreeRoomAt new (front + cost) more

-- what a cell for data of a length takes of the room
abbrev pub cell_cost : ℕ → ℕ
cell_cost len = least_size len

-- why nothing is written: for want of memory, or since there is no free room
abbrev pub WriteRefused : List ℕ → ℕ → Refusal → Type 0
WriteRefused old cost why = (why ≡ refusal.NoMemory) ⊎ (HasFreeRoom old cost → ⊥)

-- bytes are filled into a cell that is there and long enough, and all others stay
pub record Fills (old new : List ℕ) (at : ℕ) (encoding : List ℕ) : Type 0 where
  pub cells : (before : Cells) → Shows old before → (after : Cells) × Shows new after × SameBut at before after × CellHolds after at encoding
  pub len : length new ≡ length old
  pub room : (front more : ℕ) → HasFreeRoomAt old front more → HasFreeRoomAt new front more

-- things are written one after another, each into cells of its own that were not there
pub record Lists {A : Type 0} (Is : Cells → A → Type 0) (own : A → List ℕ) (items : List A) (before after : Cells) : Type 0 where
  pub all : AllByRecursion (Is after) items
  pub adds : Adds before after (flat_map own items)
