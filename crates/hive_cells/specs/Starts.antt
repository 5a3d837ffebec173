-- Where cells begin, kept as bits of words: the bit of the k-th 8 bytes of the data is bit k % 64 of word k / 64. And
-- the greatest sizes of free cells, page by page.
use Rattle.std.specs.Prelude.{◌≡◌, ◌≢◌, ℕ, ◌+◌, ◌*◌, ◌/◌, ◌%◌, ◌<◌, ◌≤◌, ◌==◌, Bool, true, false, List, length, slice_index}
use Rattle.std.specs.Int.{bit_at}
use Rattle.refusals.specs.declared.limits.TheConstants.{MOST_BINS_BYTES}
use Rattle.hive_cells.specs.Tiles.{IsFreeCell, BeginsCell, u32_at, is_allocated, cell_size}
use Rattle.hive_cells.specs.Marks.{Mark, Cell, mark_at, IsMarked, IsBetweenBins, IsInBin}

-- whether a cell begins at the k-th 8 bytes
abbrev pub is_start : List ℕ → ℕ → Bool
is_start words k = bit_at (slice_index words (k / 64)) (k % 64) == 1

-- no cell begins from one slot of 8 bytes up to another
abbrev pub NoStart : List ℕ → ℕ → ℕ → Type 0
NoStart words low high = (k : ℕ) → low ≤ k → k < high → is_start words k ≡ false

-- the last slot from one up to another at which a cell begins
pub record IsLastStart (words : List ℕ) (low high slot : ℕ) : Type 0 where
  pub after : low ≤ slot
  pub before : slot < high
  pub begins : is_start words slot ≡ true
  pub rest : (k : ℕ) → slot < k → k < high → is_start words k ≡ false

-- no bit of a word is set up to one, this included
abbrev pub NoBit : ℕ → ℕ → Type 0
NoBit word last = (bit : ℕ) → bit ≤ last → bit_at word bit ≡ 0

-- the last bit of a word that is set, up to one, this included
pub record IsLastBit (word last bit : ℕ) : Type 0 where
  pub within : bit ≤ last
  pub one : bit_at word bit ≡ 1
  pub rest : (above : ℕ) → bit < above → above ≤ last → bit_at word above ≡ 0

-- one bit is put
pub record SetsStartBit (old new : List ℕ) (slot : ℕ) (begins : Bool) : Type 0 where
  pub len : length new ≡ length old
  pub here : is_start new slot ≡ begins
  pub others : (k : ℕ) → k ≢ slot → is_start new k ≡ is_start old k

-- whether a mark is the mark of a cell
abbrev pub is_cell_mark : Mark → Bool
is_cell_mark Cell = true
is_cell_mark _ = false

-- the bits are the bits of the cells that are marked, and there is one for each 8 bytes of data
pub record AreStarts (bytes : List ℕ) (marks : List Mark) (words : List ℕ) : Type 0 where
  pub len : length bytes ≡ 512 * length words
  pub same : (k : ℕ) → is_start words k ≡ is_cell_mark (mark_at marks k)

-- bins and cells tile the data, and the bits say where cells begin
pub record HasStartBits (bytes words : List ℕ) : Type 0 where
  pub marks : List Mark
  pub all : IsMarked bytes marks
  pub starts : AreStarts bytes marks words

-- the bound of the sizes of the free cells that begin in the page of an offset
abbrev pub bound_at : List ℕ → ℕ → ℕ
bound_at bounds at = slice_index bounds (at / 4096)

-- there is a bound for each page. No free cell, but perhaps the one at an offset, is longer than the bound of the page
-- that it begins in
pub record AreBoundsBut (bytes bounds : List ℕ) (but : ℕ) : Type 0 where
  pub len : length bytes ≤ 4096 * length bounds
  pub most : (at : ℕ) → at ≢ but → IsFreeCell bytes at → cell_size bytes at ≤ bound_at bounds at

-- there is a bound for each page, and no free cell is longer than the bound of the page that it begins in
pub record AreBounds (bytes bounds : List ℕ) : Type 0 where
  pub len : length bytes ≤ 4096 * length bounds
  pub most : (at : ℕ) → IsFreeCell bytes at → cell_size bytes at ≤ bound_at bounds at

-- what is kept beside the data: bins and cells tile them, bits and bounds are theirs, and there is a bound for each
-- page of the largest data
pub record IsIndexed (bytes words bounds : List ℕ) : Type 0 where
  pub cells : HasStartBits bytes words
  pub free : AreBounds bytes bounds
  pub most_pages : MOST_BINS_BYTES / 4096 ≤ length bounds

-- an image: data with bits and bounds, and memory for some bytes more and their bits
pub record IsImage (bytes words bounds : List ℕ) (spare room words_room : ℕ) : Type 0 where
  pub indexed : IsIndexed bytes words bounds
  pub room_left : length bytes + spare ≤ room
  pub words_left : length words + spare / 512 ≤ words_room

-- no bound gets less, and the one of a page is at least a size
pub record Raises (old new : List ℕ) (page size : ℕ) : Type 0 where
  pub len : length new ≡ length old
  pub more : (k : ℕ) → slice_index old k ≤ slice_index new k
  pub here : size ≤ slice_index new page

-- the greatest bounds of groups of 128 pages each are no less than those of their pages
pub record AreGrouped (pages groups : List ℕ) : Type 0 where
  pub enough : length pages ≤ 128 * length groups
  pub most : (k : ℕ) → slice_index pages k ≤ slice_index groups (k / 128)

-- no page from one up to another has a bound of at least a size
abbrev pub AllBelow : List ℕ → ℕ → ℕ → ℕ → Type 0
AllBelow bounds from upto size = (k : ℕ) → from ≤ k → k < upto → slice_index bounds k < size

-- the first page from one up to another that has a bound of at least a size
pub record IsNextPage (bounds : List ℕ) (from upto size page : ℕ) : Type 0 where
  pub after : from ≤ page
  pub before : page < upto
  pub enough : size ≤ slice_index bounds page
  pub rest : AllBelow bounds from page size

-- the bounds of the free cells that are marked so far
pub record AreBoundsOf (bytes : List ℕ) (marks : List Mark) (bounds : List ℕ) : Type 0 where
  pub len : length bytes ≤ 4096 * length bounds
  pub most_pages : MOST_BINS_BYTES / 4096 ≤ length bounds
  pub most : (k : ℕ) → mark_at marks k ≡ Cell → is_allocated bytes (8 * k) ≡ false → cell_size bytes (8 * k) ≤ bound_at bounds (8 * k)

-- the walk over the data is between two bins, at an offset
pub record WalkIsBetweenBins (bytes words bounds : List ℕ) (at : ℕ) : Type 0 where
  pub marks : List Mark
  pub walk : IsBetweenBins bytes marks at
  pub starts : AreStarts bytes marks words
  pub free : AreBoundsOf bytes marks bounds

-- the walk is at an offset after the header of the bin that ends at `end`
pub record WalkIsInBin (bytes words bounds : List ℕ) (end at : ℕ) : Type 0 where
  pub marks : List Mark
  pub walk : IsInBin bytes marks end at
  pub starts : AreStarts bytes marks words
  pub free : AreBoundsOf bytes marks bounds

-- at an offset a cell begins after a change exactly if one did before, and it has the same size and kind
pub record SameCell (old new : List ℕ) (at : ℕ) : Type 0 where
  pub begins : BeginsCell old at → BeginsCell new at
  pub began : BeginsCell new at → BeginsCell old at
  pub word : BeginsCell old at → u32_at new at ≡ u32_at old at

-- all cells but for those at two offsets are the same
abbrev pub OtherCells : List ℕ → List ℕ → ℕ → ℕ → Type 0
OtherCells old new a b = (at : ℕ) → at ≢ a → at ≢ b → SameCell old new at
