-- What mending makes of hive bins data, so that bins and cells tile them. Offsets and sizes are in bytes.
use Rattle.std.specs.Prelude.{◌≡◌, ℕ, ◌+◌, ◌-◌, ◌*◌, ◌/◌, ◌%◌, ◌<◌, ◌≤◌, false, List, [], ◌∷◌, ◌++◌, length, take, slice_index, ◌⊎◌, IsTrue}
use Rattle.std.specs.List.{AllByRecursion}
use Rattle.refusals.specs.declared.refusal.Refusal.{Refusal}
use Rattle.refusals.specs.declared.refusal.Refusal.TheVariants as refusal
use Rattle.refusals.specs.declared.limits.TheConstants.{MOST_BINS_BYTES}
use Rattle.hive_cells.specs.Tiles.{u32_at, IsBin, bin_size, IsCell, cell_size, is_allocated, cell_data, BinStart, CellStart, Tiles, IsAllocatedCell}
use Rattle.hive_mending.specs.declared.gap.Gap.{Gap}
use Rattle.hive_mending.specs.declared.gap.GapKind.{GapKind}
use Rattle.hive_mending.specs.declared.gap.GapKind.TheVariants as kind
use Rattle.hive_mending.specs.Breaks.{GoesOnAt}

-- the data, cut to whole pages of 4,096 bytes
abbrev pub whole_pages : List ℕ → List ℕ
whole_pages bytes = take (length bytes / 4096 * 4096) bytes

-- the bytes from one offset up to another are as they were
abbrev pub SameWithin : List ℕ → List ℕ → ℕ → ℕ → Type 0
SameWithin old new from to = (i : ℕ) → from ≤ i → i < to → slice_index new i ≡ slice_index old i

-- so are the bytes from an offset on
abbrev pub SameFrom : List ℕ → List ℕ → ℕ → Type 0
SameFrom old new from = (i : ℕ) → from ≤ i → slice_index new i ≡ slice_index old i

-- the page at an offset is a bin of its own with one free cell. All bytes but the three numbers of the bin's header and
-- the cell's size are as they were
pub record IsMadePage (old new : List ℕ) (at : ℕ) : Type 0 where
  pub signature : u32_at new at ≡ 0x6e69_6268
  pub own_offset : u32_at new (at + 4) ≡ at
  pub size_is : bin_size new at ≡ 4096
  pub cell_is : cell_size new (at + 32) ≡ 4064
  pub is_free : is_allocated new (at + 32) ≡ false
  pub header : SameWithin old new (at + 12) (at + 32)
  pub rest : SameWithin old new (at + 36) (at + 4096)

-- what lies between two offsets is one free cell, and its bytes behind its size are as they were
pub record IsMadeCell (old new : List ℕ) (at next : ℕ) : Type 0 where
  pub size_is : cell_size new at ≡ next - at
  pub eights : (next - at) % 8 ≡ 0
  pub is_free : is_allocated new at ≡ false
  pub rest : SameWithin old new (at + 4) next

-- the gap of a page in which no bin stands
abbrev pub bad_bin : ℕ → Gap
bad_bin at = record { kind = kind.BadBin; at = at; bytes = 4096 }

-- the gap from the first offset that is no cell up to where cells go on
abbrev pub bad_cell : ℕ → ℕ → Gap
bad_cell at next = record { kind = kind.BadCell; at = at; bytes = next - at }

-- the data are mended up to an offset, in the bin that has this end; between bins the offset is that end itself. A bin
-- or cell that stands stays as it is. Where none stands, a page becomes a bin, or the bytes up to where cells go on
-- become one free cell, and there is a gap
pub data Mending (old new : List ℕ) : List Gap → ℕ → ℕ → Type 0 where
  nothing : Mending old new [] 0 0
  bin_stays : (gaps : List Gap) (at end next : ℕ) → Mending old new gaps at at → IsBin old at → SameWithin old new at (at + 32) → end ≡ at + bin_size old at → next ≡ at + 32 → Mending old new gaps end next
  page_made : (before gaps : List Gap) (at next : ℕ) → Mending old new before at at → at + 4096 ≤ length old → (¬ IsBin old at) → IsMadePage old new at → next ≡ at + 4096 → gaps ≡ before ++ bad_bin at ∷ [] → Mending old new gaps next next
  cell_stays : (gaps : List Gap) (end at next : ℕ) → Mending old new gaps end at → IsCell old end at → SameWithin old new at next → next ≡ at + cell_size old at → Mending old new gaps end next
  cell_made : (before gaps : List Gap) (end at next : ℕ) → Mending old new before end at → at + 8 ≤ next → (¬ IsCell old end at) → GoesOnAt old end at next → IsMadeCell old new at next → gaps ≡ before ++ bad_cell at next ∷ [] → Mending old new gaps end next

-- the bytes at the start of a gap that mending writes: a bin's header with the size of its cell, or a cell's size
abbrev pub written_bytes : GapKind → ℕ
written_bytes kind.BadBin = 36
written_bytes kind.BadCell = 4

-- a byte is one of those that are written in a gap of the list
abbrev pub IsAtGapStart : List Gap → ℕ → Type 0
IsAtGapStart [] i = ⊥
IsAtGapStart (gap ∷ gaps) i = ((gap.at ≤ i) × (i < gap.at + written_bytes gap.kind)) ⊎ IsAtGapStart gaps i

-- a gap says the truth: no bin stood at this page, and it is a bin now; or no cell stood at this offset of a bin, and
-- the gap is one free cell now
abbrev pub IsGap : List ℕ → List ℕ → Gap → Type 0
IsGap old new gap = IsGapOf gap.kind where
  IsGapOf : GapKind → Type 0
  IsGapOf kind.BadBin = BinStart new gap.at × (¬ IsBin old gap.at) × (gap.bytes ≡ 4096) × IsMadePage old new gap.at
  IsGapOf kind.BadCell = (end : ℕ) × CellStart new end gap.at × (¬ IsCell old end gap.at) × GoesOnAt old end gap.at (gap.at + gap.bytes) × IsMadeCell old new gap.at (gap.at + gap.bytes)

-- gaps follow one another from an offset on, and none begins before the one before it ends
abbrev pub FollowFrom : ℕ → List Gap → Type 0
FollowFrom from [] = Unit {0}
FollowFrom from (gap ∷ gaps) = (from ≤ gap.at) × FollowFrom (gap.at + gap.bytes) gaps

-- an allocated cell was one before, in a bin with the same end, with the same size and data
pub record WasCell (old new : List ℕ) (at : ℕ) : Type 0 where
  pub end : ℕ
  pub starts : CellStart new end at
  pub cell : IsCell old end at
  pub allocated : IsTrue (is_allocated old at)
  pub data_is : cell_data new at ≡ cell_data old at

-- what mending leaves of data of whole pages, and the gaps that it tells, in the order of their offsets
pub record IsMended (old new : List ℕ) (gaps : List Gap) : Type 0 where
  pub tiles : Tiles new
  pub len : length new ≡ length old
  pub bytes : (i : ℕ) → i < length old → IsAtGapStart gaps i ⊎ (slice_index new i ≡ slice_index old i)
  pub order : FollowFrom 0 gaps
  pub gaps_are : AllByRecursion (IsGap old new) gaps
  pub whole : Tiles old → (gaps ≡ []) × (new ≡ old)
  pub none : gaps ≡ [] → new ≡ old
  pub cells : (at : ℕ) → IsAllocatedCell new at → WasCell old new at
  pub steps : Mending old new gaps (length old) (length old)

-- why data are not mended: for want of memory, or because their whole pages are over the limit
abbrev pub MendRefused : List ℕ → Refusal → Type 0
MendRefused bytes refusal.NoMemory = length (whole_pages bytes) ≤ MOST_BINS_BYTES
MendRefused bytes refusal.TooLarge = MOST_BINS_BYTES < length (whole_pages bytes)
MendRefused bytes _ = ⊥

-- the data are mended up to an offset, and what follows is as it was
pub record IsMendedTo (old new : List ℕ) (gaps : List Gap) (end at : ℕ) : Type 0 where
  pub len : length new ≡ length old
  pub so_far : Mending old new gaps end at
  pub rest : SameFrom old new at

-- one cell is mended, at an offset that lies before its bin's end
pub record MendsCell (old new : List ℕ) (before gaps : List Gap) (end at next : ℕ) : Type 0 where
  pub len : length new ≡ length old
  pub later : at < next
  pub within : next ≤ end
  pub eights : next % 8 ≡ 0
  pub step : (IsCell old end at × (new ≡ old) × (gaps ≡ before) × (next ≡ at + cell_size old at)) ⊎ ((¬ IsCell old end at) × GoesOnAt old end at next × IsMadeCell old new at next × SameWithin old new 0 at × SameFrom old new next × (gaps ≡ before ++ bad_cell at next ∷ []))

-- cells of a bin are mended up to an offset. If the data were mended up to the first of them, they are up to there
pub record MendsCells (old new : List ℕ) (before gaps : List Gap) (end first at : ℕ) : Type 0 where
  pub len : length new ≡ length old
  pub within : at ≤ end
  pub eights : at % 8 ≡ 0
  pub rest : SameFrom old new at
  pub mended : (older : List ℕ) → IsMendedTo older old before end first → IsMendedTo older new gaps end at

-- one bin is mended, at a page where a bin begins or where none stands
pub record MendsBin (old new : List ℕ) (before gaps : List Gap) (at next : ℕ) : Type 0 where
  pub len : length new ≡ length old
  pub later : at < next
  pub within : next ≤ length old
  pub pages : next % 4096 ≡ 0
  pub mended : (older : List ℕ) → IsMendedTo older old before at at → IsMendedTo older new gaps next next
