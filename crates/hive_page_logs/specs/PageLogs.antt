-- Logs of pages (regf format, old transaction log): the pages of bins data that one write changes.
use Rattle.std.specs.Prelude.{◌≡◌, ℕ, ◌+◌, ◌*◌, ◌/◌, ◌==◌, nat_le, nat_lt, not, Bool, true, false, ◌&&◌, ◌||◌, if◌then◌else◌, List, length, take, drop, Option, Some, None, Result, Ok, Err}
use Rattle.std.specs.Int.{div_ceil}
use Rattle.base_block.specs.Layout.{block_at, number_at}
use Rattle.base_block.specs.declared.block.BaseBlock.{BaseBlock}
use Rattle.dirty_vector.specs.Marks.{is_marked_in_bitmap, marked_below}
use Rattle.dirty_vector.specs.Pages.{Pages, dirty_count, is_bins_size}
use Rattle.hive_recovery.specs.Logs.{is_read_version}
use Rattle.hive_recovery.specs.declared.log.Log.{Log}
use Rattle.hive_recovery.specs.declared.log.LogHead.{LogHead}
use Rattle.hive_recovery.specs.declared.log.LogHead.TheVariants.{OtherType}
use Rattle.hive_page_logs.specs.declared.page_log.PageFault.{PageFault}
use Rattle.hive_page_logs.specs.declared.page_log.PageFault.TheVariants as fault
use Rattle.hive_page_logs.specs.declared.page_log.PageLog.{PageLog}
use Rattle.hive_page_logs.specs.declared.page_log.WholePageLog.{WholePageLog}
use Rattle.hive_page_logs.specs.declared.page_log.PageLog.TheVariants as log

-- a log of pages: its first sector, its base block, the pages that it marks, and their bytes in rising order
pub record PagesSeen : Type 0 where
  pub sector : List ℕ
  pub block : BaseBlock
  pub marked : Pages
  pub bytes : List ℕ

-- a first sector is one of a log of pages
abbrev pub is_page_type : LogHead → Bool
is_page_type (OtherType kind) = (kind.0 == 1) || (kind.0 == 2)
is_page_type _ = false

-- what is wrong with the block of a log of pages: versions first, then its numbers, then its size of bins data
abbrev pub block_fault : BaseBlock → Option PageFault
block_fault block =
    if not (is_read_version block) then Some fault.OtherVersion
    else (if not (block.primary.0 == block.secondary.0) then Some (fault.Numbers block.primary block.secondary)
    else (if not (is_bins_size block.bins_size) then Some fault.WrongBinsSize
    else None))

-- the letters `DIRT` stand at a place
abbrev pub has_letters : List ℕ → ℕ → Bool
has_letters bytes at = nat_le (at + 4) (length bytes) && (number_at at 4 bytes == 0x5452_4944)

-- where the letters stand: behind 512 bytes, or behind a sector of the disk, if its factor is 2 to 8
abbrev pub letters_at : List ℕ → Option ℕ
letters_at bytes =
    let factor = number_at 44 4 bytes in
    if has_letters bytes 512 then Some 512
    else (if nat_le 2 factor && nat_le factor 8 && has_letters bytes (512 * factor) then Some (512 * factor) else None)

-- where the bitmap behind letters at a place ends: a bit for each 512 bytes of bins data
abbrev pub bitmap_end : ℕ → ℕ → ℕ
bitmap_end at size = at + 4 + size / 4096

-- where the pages begin: the bitmap's end, rounded up to a multiple of the place of the letters
abbrev pub pages_start : ℕ → ℕ → ℕ
pages_start at size = div_ceil (bitmap_end at size) at * at

-- the pages of bins data of a size that a bitmap marks
abbrev pub marked_by : ℕ → List ℕ → Pages
marked_by size bitmap = record { bins_size = size; dirty = marked_below (is_marked_in_bitmap bitmap) (size / 512) }

-- the bitmap behind letters at a place
abbrev pub bitmap_at : List ℕ → ℕ → ℕ → List ℕ
bitmap_at bytes at size = take (size / 4096) (drop (at + 4) bytes)

-- the log of pages behind letters at a place, or why there is none
unfoldable pub pages_of : List ℕ → BaseBlock → ℕ → Result PagesSeen PageFault
pages_of bytes block at =
    let marked = marked_by block.bins_size (bitmap_at bytes at block.bins_size) in
    let start = pages_start at block.bins_size in
    let count = 512 * dirty_count marked in
    if nat_lt (length bytes) (bitmap_end at block.bins_size) then Err fault.BitmapCut
    else (if nat_lt (length bytes) (start + count) then Err fault.PagesCut
    else Ok (record { sector = take 512 bytes; block = block; marked = marked; bytes = take count (drop start bytes) }))

-- the same with the letters where they stand
abbrev pub pages_at_letters : List ℕ → BaseBlock → Option ℕ → Result PagesSeen PageFault
pages_at_letters bytes block None = Err fault.NoLetters
pages_at_letters bytes block (Some at) = pages_of bytes block at

-- the same if nothing is wrong with the block
abbrev pub pages_behind : List ℕ → BaseBlock → Option PageFault → Result PagesSeen PageFault
pages_behind bytes block (Some why) = Err why
pages_behind bytes block None = pages_at_letters bytes block (letters_at bytes)

-- the log of pages that a file is, or the first that is wrong with it
unfoldable pub page_log_of : List ℕ → Result PagesSeen PageFault
page_log_of bytes =
    let block = block_at (take 512 bytes) in
    if nat_lt (length bytes) 512 then Err fault.BitmapCut else pages_behind bytes block (block_fault block)

-- what contracts see of a log that was read
abbrev pub whole_seen : WholePageLog → PagesSeen
whole_seen whole = record { sector = whole.sector; block = whole.dirt.base; marked = whole.dirt.vector; bytes = whole.dirt.pages.now }

-- what is read is the log of pages, or what is wrong with it
abbrev pub IsWholeOr : List ℕ → Result PagesSeen PageFault → PageLog → Type 0
IsWholeOr bytes wanted log.Other = ⊥
IsWholeOr bytes wanted (log.Faulty why) = wanted ≡ Err why
IsWholeOr bytes wanted (log.Whole whole) = wanted ≡ Ok (whole_seen whole)

-- the same of a log, which may be of another kind
abbrev pub IsPageLog : Log → PageLog → Type 0
IsPageLog its log.Other = is_page_type its.head ≡ false
IsPageLog its (log.Faulty why) = (is_page_type its.head ≡ true) × (page_log_of its.bytes.now ≡ Err why)
IsPageLog its (log.Whole whole) = (is_page_type its.head ≡ true) × (page_log_of its.bytes.now ≡ Ok (whole_seen whole))

-- the log of pages that was read, if it is whole
abbrev pub page_view : PageLog → Option PagesSeen
page_view log.Other = None
page_view (log.Faulty why) = None
page_view (log.Whole whole) = Some (whole_seen whole)

-- what an answer has, if it is no fault
abbrev pub found_in : Result PagesSeen PageFault → Option PagesSeen
found_in (Err why) = None
found_in (Ok seen) = Some seen

-- the log of pages that a log is, if it is one and whole
abbrev pub page_view_of : Log → Option PagesSeen
page_view_of its = if is_page_type its.head then found_in (page_log_of its.bytes.now) else None
