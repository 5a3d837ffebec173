-- How bins and cells tile hive bins data (regf format: hive bins; cells). Offsets and sizes are in bytes, and
-- offsets are counted from the start of the data.
use Rattle.std.specs.Prelude.{◌≡◌, ◌≢◌, ℕ, zero, ◌+◌, ◌-◌, ◌*◌, ◌%◌, ◌^◌, ◌<◌, ◌≤◌, nat_le, Bool, false, IsTrue, if◌then◌else◌, List, length, slice_index, slice_range}
use Rattle.refusals.specs.declared.refusal.Refusal.{Refusal}
use Rattle.refusals.specs.declared.refusal.Refusal.TheVariants as refusal
use Rattle.refusals.specs.declared.refusal.Cause.{Cause}
use Rattle.refusals.specs.declared.refusal.Cause.TheVariants as cause

-- the number of the four bytes that begin at an offset, the lowest byte first
unfoldable pub u32_at : List ℕ → ℕ → ℕ
u32_at bytes at =
    slice_index bytes at + 0x100 * slice_index bytes (at + 1) + 0x1_0000 * slice_index bytes (at + 2) + 0x100_0000 * slice_index bytes (at + 3)

-- the size that the header of a bin says
abbrev pub bin_size : List ℕ → ℕ → ℕ
bin_size bytes at = u32_at bytes (at + 8)

-- a bin at an offset. Its header says `hbin`, that offset, and a size that is a multiple of 4,096 and not 0. It ends
-- within the data
pub record IsBin (bytes : List ℕ) (at : ℕ) : Type 0 where
  pub signature : u32_at bytes at ≡ 0x6e69_6268
  pub own_offset : u32_at bytes (at + 4) ≡ at
  pub pages : bin_size bytes at % 4096 ≡ 0
  pub not_empty : bin_size bytes at ≢ 0
  pub within : at + bin_size bytes at ≤ length bytes

-- where bins begin: at the start of the data, and where a bin ends before the data do
pub data BinStart (bytes : List ℕ) : ℕ → Type 0 where
  first_bin : 0 < length bytes → BinStart bytes 0
  next_bin : (from at : ℕ) → BinStart bytes from → IsBin bytes from → at ≡ from + bin_size bytes from → at < length bytes → BinStart bytes at

-- a cell's stored size is a signed number of 32 bits: below 0 if the cell is allocated
unfoldable pub is_allocated : List ℕ → ℕ → Bool
is_allocated bytes at = nat_le (2 ^ 31) (u32_at bytes at)

-- the size of a cell, its own four bytes included: the amount of the stored size
unfoldable pub cell_size : List ℕ → ℕ → ℕ
cell_size bytes at = if is_allocated bytes at then 2 ^ 32 - u32_at bytes at else u32_at bytes at

-- a cell at an offset, in a bin that has this end: its size is a multiple of 8, at least 8, and it ends within the
-- bin
pub record IsCell (bytes : List ℕ) (end at : ℕ) : Type 0 where
  pub eights : cell_size bytes at % 8 ≡ 0
  pub least : 8 ≤ cell_size bytes at
  pub within : at + cell_size bytes at ≤ end

-- where the cells of a bin with this end begin: after the bin's header of 32 bytes, and where a cell ends before the
-- bin does
pub data CellStart (bytes : List ℕ) (end : ℕ) : ℕ → Type 0 where
  first_cell : (bin at : ℕ) → BinStart bytes bin → IsBin bytes bin → end ≡ bin + bin_size bytes bin → at ≡ bin + 32 → CellStart bytes end at
  next_cell : (from at : ℕ) → CellStart bytes end from → IsCell bytes end from → at ≡ from + cell_size bytes from → at < end → CellStart bytes end at

-- the data are whole pages, each bin that begins is one, and so is each cell
pub record Tiles (bytes : List ℕ) : Type 0 where
  pub pages : length bytes % 4096 ≡ 0
  pub bins : (at : ℕ) → BinStart bytes at → IsBin bytes at
  pub cells : (end at : ℕ) → CellStart bytes end at → IsCell bytes end at

-- a rule that names the cause is broken in the data
abbrev pub Fault : List ℕ → Cause → Type 0
Fault bytes cause.Truncated = length bytes % 4096 ≢ 0
Fault bytes cause.BadBin = (at : ℕ) × BinStart bytes at × (¬ IsBin bytes at)
Fault bytes cause.BadCell = (end : ℕ) × (at : ℕ) × CellStart bytes end at × (¬ IsCell bytes end at)
Fault bytes _ = ⊥

-- a refusal for a cause that is true of the data, reported of hive 0
abbrev pub IsFaultOf : List ℕ → Refusal → Type 0
IsFaultOf bytes (refusal.HiveDamaged zero c) = Fault bytes c
IsFaultOf bytes _ = ⊥

-- why data are refused as hive bins data: for want of memory, or for a cause that is true of them, reported of hive 0
abbrev pub DataRefused : List ℕ → Refusal → Type 0
DataRefused bytes refusal.NoMemory = Unit {0}
DataRefused bytes (refusal.HiveDamaged zero c) = Fault bytes c
DataRefused bytes _ = ⊥

-- a cell begins at the offset
abbrev pub BeginsCell : List ℕ → ℕ → Type 0
BeginsCell bytes at = (end : ℕ) × CellStart bytes end at

-- an allocated cell begins at the offset
abbrev pub IsAllocatedCell : List ℕ → ℕ → Type 0
IsAllocatedCell bytes at = BeginsCell bytes at × IsTrue (is_allocated bytes at)

-- a free cell begins at the offset
abbrev pub IsFreeCell : List ℕ → ℕ → Type 0
IsFreeCell bytes at = BeginsCell bytes at × (is_allocated bytes at ≡ false)

-- a free cell of at least a size begins somewhere
abbrev pub HasFree : List ℕ → ℕ → Type 0
HasFree bytes size = (at : ℕ) × IsFreeCell bytes at × (size ≤ cell_size bytes at)

-- the data of a cell: its bytes after its size
abbrev pub cell_data : List ℕ → ℕ → List ℕ
cell_data bytes at = slice_range bytes (at + 4) (at + cell_size bytes at)

-- a tile of the data: the header of the bin that begins at an offset, or the cell that begins there
pub data Tile : Type 0 where
  header : ℕ → Tile
  cell : ℕ → Tile

abbrev pub IsTile : List ℕ → Tile → Type 0
IsTile bytes (header at) = BinStart bytes at
IsTile bytes (cell at) = (end : ℕ) × CellStart bytes end at

-- the tile has the byte at an offset
abbrev pub HoldsByte : List ℕ → Tile → ℕ → Type 0
HoldsByte bytes (header at) i = (at ≤ i) × (i < at + 32)
HoldsByte bytes (cell at) i = (at ≤ i) × (i < at + cell_size bytes at)

-- the byte at an offset lies in one tile, and in no other
abbrev pub LiesInOneTile : List ℕ → ℕ → Type 0
LiesInOneTile bytes i = (tile : Tile) × IsTile bytes tile × HoldsByte bytes tile i × ((other : Tile) → IsTile bytes other → HoldsByte bytes other i → other ≡ tile)
