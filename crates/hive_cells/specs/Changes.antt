-- What a change of the cells leaves: which are allocated, with which data, and which bytes were written.
use Rattle.std.specs.Prelude.{◌≡◌, ◌≢◌, ℕ, zero, ◌+◌, ◌-◌, ◌*◌, ◌/◌, ◌<◌, ◌≤◌, Bool, false, List, length, slice_index, ◌↔◌, ◌⊎◌}
use Rattle.refusals.specs.declared.refusal.Refusal.{Refusal}
use Rattle.refusals.specs.declared.refusal.Refusal.TheVariants as refusal
use Rattle.refusals.specs.declared.refusal.Cause.TheVariants as cause
use Rattle.refusals.specs.declared.limits.TheConstants.{MOST_BINS_BYTES}
use Rattle.hive_cells.specs.Tiles.{u32_at, IsBin, bin_size, is_allocated, cell_size, BeginsCell, IsAllocatedCell, IsFreeCell, HasFree, cell_data}
use Rattle.hive_cells.specs.Starts.{SameCell, OtherCells}
use Rattle.hive_cells.specs.Bins.{Bins}

-- at an offset an allocated cell begins after the change exactly if one did before, and its size and its data are the
-- same
pub record StaysAt (old new : List ℕ) (at : ℕ) : Type 0 where
  pub same : IsAllocatedCell new at ↔ IsAllocatedCell old at
  pub size : IsAllocatedCell old at → cell_size new at ≡ cell_size old at
  pub kept : IsAllocatedCell old at → cell_data new at ≡ cell_data old at

-- the allocated cells but for the one at an offset stay
abbrev pub OthersStay : List ℕ → List ℕ → ℕ → Type 0
OthersStay old new offset = (at : ℕ) → at ≢ offset → StaysAt old new at

-- all allocated cells stay
abbrev pub AllStay : List ℕ → List ℕ → Type 0
AllStay old new = (at : ℕ) → StaysAt old new at

-- the least size of a cell for data of a length: four bytes more, rounded up to a multiple of 8
abbrev pub least_size : ℕ → ℕ
least_size len = (len + 11) / 8 * 8

-- a byte is none of the four at an offset
abbrev pub IsOutside : ℕ → ℕ → Type 0
IsOutside i at = (i < at) ⊎ (at + 4 ≤ i)

-- the data get no shorter. Of the old data, only the four bytes at an offset are written. If a cell of a size there
-- leaves something of its room over, the four bytes after the cell are written too
pub record WritesSizes (old new : List ℕ) (at size room : ℕ) : Type 0 where
  pub longer : length old ≤ length new
  pub others : (i : ℕ) → i < length old → IsOutside i at → (size < room → IsOutside i (at + size)) → slice_index new i ≡ slice_index old i

-- the same, and the length stays
pub record RewritesSizes (old new : List ℕ) (at size room : ℕ) : Type 0 where
  pub len : length new ≡ length old
  pub others : (i : ℕ) → IsOutside i at → (size < room → IsOutside i (at + size)) → slice_index new i ≡ slice_index old i

-- the length stays, and only the bytes from one offset up to another are written
pub record RewritesWithin (old new : List ℕ) (from to : ℕ) : Type 0 where
  pub len : length new ≡ length old
  pub others : (i : ℕ) → ((i < from) ⊎ (to ≤ i)) → slice_index new i ≡ slice_index old i

-- the size of a cell is written
pub record PutsSize (old new : List ℕ) (at size : ℕ) (allocated : Bool) : Type 0 where
  pub len : length new ≡ length old
  pub size_is : cell_size new at ≡ size
  pub kind_is : is_allocated new at ≡ allocated
  pub others : (i : ℕ) → ((i < at) ⊎ (at + 4 ≤ i)) → slice_index new i ≡ slice_index old i

-- what is free after a change at an offset was free before, with the same size
pub record StaysFree (old new : List ℕ) (at : ℕ) : Type 0 where
  pub same : IsFreeCell new at ↔ IsFreeCell old at
  pub size : IsFreeCell old at → cell_size new at ≡ cell_size old at

-- the cell at an offset becomes allocated or free, and all others stay
pub record Turns (old new : List ℕ) (at : ℕ) (allocated : Bool) : Type 0 where
  pub begins : BeginsCell new at
  pub kind : is_allocated new at ≡ allocated
  pub size : cell_size new at ≡ cell_size old at
  pub stay : OthersStay old new at
  pub cells : OtherCells old new at at
  pub written : RewritesWithin old new at (at + 4)

-- the free cell at an offset becomes two free cells, the first of which has a size
pub record Splits (old new : List ℕ) (at size : ℕ) : Type 0 where
  pub first : IsFreeCell new at
  pub first_size : cell_size new at ≡ size
  pub second : IsFreeCell new (at + size)
  pub second_size : size + cell_size new (at + size) ≡ cell_size old at
  pub stay : AllStay old new
  pub cells : OtherCells old new at (at + size)
  pub written : RewritesSizes old new at size (cell_size old at)

-- the free cells at an offset and after it become one
pub record Joins (old new : List ℕ) (at next : ℕ) : Type 0 where
  pub joined : IsFreeCell new at
  pub size : cell_size new at ≡ cell_size old at + cell_size old next
  pub gone : ¬ BeginsCell new next
  pub stay : AllStay old new
  pub cells : OtherCells old new at next
  pub written : RewritesWithin old new at (at + 4)

-- the free cell at an offset is merged with the free cell after it, if there was one
pub record JoinsBehind (old new : List ℕ) (at : ℕ) : Type 0 where
  pub free : IsFreeCell new at
  pub least : cell_size old at ≤ cell_size new at
  pub joined : (next : ℕ) → IsFreeCell old next → next ≡ at + cell_size old at → at + cell_size new at ≡ next + cell_size old next
  pub stay : AllStay old new
  pub before : (other : ℕ) → other < at → SameCell old new other
  pub written : RewritesWithin old new at (at + 4)

-- the free cell at an offset is merged into the free cell before it, if there was one: it begins at another offset then
pub record JoinsBefore (old new : List ℕ) (at from : ℕ) : Type 0 where
  pub before : from ≤ at
  pub free : IsFreeCell new from
  pub end : from + cell_size new from ≡ at + cell_size old at
  pub joined : (first : ℕ) → IsFreeCell old first → first + cell_size old first ≡ at → from ≡ first
  pub alone : ((first : ℕ) → IsFreeCell old first → first + cell_size old first ≢ at) → from ≡ at
  pub stay : AllStay old new
  pub written : RewritesWithin old new from (from + 4)

-- a bin with one free cell is laid after the data, from an offset up to the new end. Its header says `hbin`, the offset
-- and its size. All bytes but these and the cell's size are 0
pub record LaysBin (old new : List ℕ) (at : ℕ) : Type 0 where
  pub signature : u32_at new at ≡ 0x6e69_6268
  pub own_offset : u32_at new (at + 4) ≡ at
  pub size_is : at + bin_size new at ≡ length new
  pub cell_is : at + (32 + cell_size new (at + 32)) ≡ length new
  pub is_free : is_allocated new (at + 32) ≡ false
  pub zeros : (i : ℕ) → at + 12 ≤ i → i < at + 32 → slice_index new i ≡ 0
  pub len : length new ≡ length old
  pub others : (i : ℕ) → i < at → slice_index new i ≡ slice_index old i

-- the size of a bin for a cell of a size: with its header of 32 bytes, rounded up to a multiple of 4,096
abbrev pub least_bin : ℕ → ℕ
least_bin size = (size + 4127) / 4096 * 4096

-- the data get longer by a bin of a size: its header says `hbin`, where it begins and its size, with zeros after
pub record AddsBin (old new : List ℕ) (size : ℕ) : Type 0 where
  pub longer : length new ≡ length old + size
  pub bin : IsBin new (length old)
  pub size_is : bin_size new (length old) ≡ size
  pub zeros : (i : ℕ) → length old + 12 ≤ i → i < length old + 32 → slice_index new i ≡ 0

-- a bin with one free cell is added
pub record AddsFreeBin (old new : List ℕ) (size : ℕ) : Type 0 where
  pub adds : AddsBin old new size
  pub cell : IsFreeCell new (length old + 32)
  pub cell_is : 32 + cell_size new (length old + 32) ≡ size
  pub same : (i : ℕ) → i < length old → slice_index new i ≡ slice_index old i
  pub stay : AllStay old new
  pub cells : (at : ℕ) → at ≢ length old + 32 → SameCell old new at

-- the free cell of some room, from which a cell of a size is taken, is at an offset. It is one of the data; or none of
-- these is long enough, and it is the free cell of the added bin, the least one for the cell
abbrev pub IsRoomFor : List ℕ → List ℕ → ℕ → ℕ → ℕ → Type 0
IsRoomFor old new size offset room =
    (IsFreeCell old offset × (cell_size old offset ≡ room) × (length new ≡ length old))
    ⊎ ((¬ HasFree old size) × AddsBin old new (least_bin size) × (offset ≡ length old + 32) × (32 + room ≡ least_bin size))

-- a cell is taken from a free cell of some room at an offset: what is over is one free cell, and all other free cells
-- stay
pub record LeavesRest (old new : List ℕ) (offset room : ℕ) : Type 0 where
  pub within : cell_size new offset ≤ room
  pub rest : cell_size new offset < room → IsFreeCell new (offset + cell_size new offset)
  pub rest_size : cell_size new offset < room → cell_size new offset + cell_size new (offset + cell_size new offset) ≡ room
  pub alone : (at : ℕ) → IsFreeCell new at → offset ≤ at → at < offset + room → at ≡ offset + cell_size new offset
  pub others : (at : ℕ) → ((at < offset) ⊎ (offset + room ≤ at)) → StaysFree old new at

-- a cell of a size has no room: the data are over the limit, or no free cell is long enough and a bin for it would take
-- the data over the limit
abbrev pub HasNoRoomFor : List ℕ → ℕ → Type 0
HasNoRoomFor bytes size = (MOST_BINS_BYTES < length bytes) ⊎ ((¬ HasFree bytes size) × (MOST_BINS_BYTES < length bytes + least_bin size))

-- a free cell of at least a size is at an offset; the data may have got longer, and what they were stays
pub record HasRoom (old new : List ℕ) (at size : ℕ) : Type 0 where
  pub limit : length new ≤ MOST_BINS_BYTES
  pub cell : IsFreeCell new at
  pub fits : size ≤ cell_size new at
  pub within : at + cell_size new at ≤ length new
  pub stay : AllStay old new
  pub cells : (other : ℕ) → other ≢ at → SameCell old new other
  pub longer : length old ≤ length new
  pub same : (i : ℕ) → i < length old → slice_index new i ≡ slice_index old i
  pub source : IsRoomFor old new size at (cell_size new at)
  pub has_place : ¬ HasNoRoomFor old size

-- why no cell of a size is allocated: it has no room; or no free cell is long enough, and there is no memory reserved
-- for the bin that has it
abbrev pub RoomRefused : Bins → ℕ → Refusal → Type 0
RoomRefused old size refusal.NoMemory = (¬ HasNoRoomFor old.bytes size) × (¬ HasFree old.bytes size) × (old.spare < least_bin size)
RoomRefused old size refusal.TooLarge = HasNoRoomFor old.bytes size
RoomRefused old size _ = ⊥

-- what is spare gets less by what the data get longer
abbrev pub UsesSpare : Bins → Bins → Type 0
UsesSpare old new = new.spare ≡ old.spare - (length new.bytes - length old.bytes)

-- the free cell at an offset is as long as it was, or was split after a size; all other cells are the same
pub record IsCutToSize (old new : List ℕ) (at size : ℕ) : Type 0 where
  pub free : IsFreeCell new at
  pub least : size ≤ cell_size new at
  pub most : cell_size new at ≤ size + 8
  pub exact : size + 8 < cell_size old at → cell_size new at ≡ size
  pub within : cell_size new at ≤ cell_size old at
  pub rest : cell_size new at < cell_size old at → IsFreeCell new (at + cell_size new at)
  pub rest_size : cell_size new at < cell_size old at → cell_size new at + cell_size new (at + cell_size new at) ≡ cell_size old at
  pub stay : AllStay old new
  pub cells : (other : ℕ) → other ≢ at → (cell_size new at < cell_size old at → other ≢ at + cell_size new at) → SameCell old new other
  pub written : RewritesSizes old new at (cell_size new at) (cell_size old at)

-- a free cell is allocated at an offset, of a size, or with all that it has if no more than 8 bytes would be left over
pub record Takes (old new : List ℕ) (at size : ℕ) : Type 0 where
  pub fresh : ¬ IsAllocatedCell old at
  pub begins : IsAllocatedCell new at
  pub least : size ≤ cell_size new at
  pub most : cell_size new at ≤ size + 8
  pub exact : size + 8 < cell_size old at → cell_size new at ≡ size
  pub others : OthersStay old new at
  pub leaves : LeavesRest old new at (cell_size old at)
  pub written : RewritesSizes old new at (cell_size new at) (cell_size old at)

-- a freed cell lies in the free cell at an offset, which is merged from three: the freed cell, the free cell that ended
-- where it began, and the free cell that began where it ended
pub record Merges (old new : List ℕ) (offset from : ℕ) : Type 0 where
  pub free : IsFreeCell new from
  pub before : from ≤ offset
  pub behind : offset + cell_size old offset ≤ from + cell_size new from
  pub free_before : (at : ℕ) → IsFreeCell old at → at + cell_size old at ≡ offset → from ≡ at
  pub none_before : ((at : ℕ) → IsFreeCell old at → at + cell_size old at ≢ offset) → from ≡ offset
  pub free_behind : (at : ℕ) → IsFreeCell old at → at ≡ offset + cell_size old offset → from + cell_size new from ≡ at + cell_size old at

-- the allocated cell at an offset is freed, and lies in a free cell that begins at another offset
pub record Frees (old new : List ℕ) (offset from : ℕ) : Type 0 where
  pub was : IsAllocatedCell old offset
  pub limit : length old ≤ MOST_BINS_BYTES
  pub gone : ¬ IsAllocatedCell new offset
  pub others : OthersStay old new offset
  pub len : length new ≡ length old
  pub merges : Merges old new offset from
  pub written : (i : ℕ) → ((i < offset) ⊎ (offset + 4 ≤ i)) → ((i < from) ⊎ (from + 4 ≤ i)) → slice_index new i ≡ slice_index old i

-- why a cell isn't freed: the data are over the limit, or within it and no allocated cell begins there
abbrev pub FreeRefused : List ℕ → ℕ → Refusal → Type 0
FreeRefused bytes offset refusal.TooLarge = MOST_BINS_BYTES < length bytes
FreeRefused bytes offset (refusal.HiveDamaged zero cause.BadOffset) = (length bytes ≤ MOST_BINS_BYTES) × (¬ IsAllocatedCell bytes offset)
FreeRefused bytes offset _ = ⊥

-- a cell for data of a length is allocated at an offset, from a free cell of some room, and all other cells stay. It is
-- longer than the least one only if no more than 8 bytes would be left over
pub record Allocates (old new : List ℕ) (len offset : ℕ) : Type 0 where
  pub room : ℕ
  pub has_place : ¬ HasNoRoomFor old (least_size len)
  pub fresh : ¬ IsAllocatedCell old offset
  pub begins : IsAllocatedCell new offset
  pub least : least_size len ≤ cell_size new offset
  pub most : cell_size new offset ≤ least_size len + 8
  pub exact : least_size len + 8 < room → cell_size new offset ≡ least_size len
  pub others : OthersStay old new offset
  pub source : IsRoomFor old new (least_size len) offset room
  pub leaves : LeavesRest old new offset room
  pub written : WritesSizes old new offset (cell_size new offset) room

-- bytes of the data of the allocated cell at an offset are written, from one offset up to another
pub record Writes (old new : List ℕ) (at from to : ℕ) : Type 0 where
  pub was : IsAllocatedCell old at
  pub begins : IsAllocatedCell new at
  pub size : cell_size new at ≡ cell_size old at
  pub others : OthersStay old new at
  pub free : (other : ℕ) → StaysFree old new other
  pub within : RewritesWithin old new from to
