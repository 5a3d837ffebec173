-- Logs that are whole, and what they repair (regf format, old transaction log).
use Rattle.std.specs.Prelude.{true, ◌≡◌, ◌≢◌, ◌≤◌, ◌<◌, ℕ, ◌+◌, ◌*◌, ◌/◌, ◌%◌, ◌==◌, false, if◌then◌else◌, List, take, drop, length, map, slice_index, codes}
use Rattle.std.specs.List.{range_with_len}
use Rattle.refusals.specs.declared.refusal.Refusal.{Refusal}
use Rattle.refusals.specs.declared.refusal.Refusal.TheVariants.{HiveDamaged}
use Rattle.refusals.specs.declared.refusal.Cause.TheVariants.{BadLog}
use Rattle.base_block.specs.declared.block.BaseBlock.{BaseBlock}
use Rattle.base_block.specs.Layout.{block_at}
use Rattle.base_block.specs.Judgements.{IsUsable, IsLog, IsLogVersion}
use Rattle.dirty_vector.specs.Marks.{is_marked_in_bitmap, marked_count, marked_below}
use Rattle.dirty_vector.specs.Pages.{Pages, is_dirty, dirty_count}
use Rattle.dirt_log.specs.LogEncoding.{bitmap_end, pages_at}

-- the refusal of a log that isn't whole
abbrev pub not_whole : Refusal
not_whole = HiveDamaged 0 BadLog

-- the block of a log's first sector
abbrev pub block_of : List ℕ → BaseBlock
block_of bytes = block_at (take 512 bytes)

-- the bitmap of a log of bins data of a size
abbrev pub bitmap_in : List ℕ → ℕ → List ℕ
bitmap_in bytes size = take (size / 4096) (drop 516 bytes)

-- the pages that a log marks
abbrev pub pages_in : List ℕ → Pages
pages_in bytes =
    let size = (block_of bytes).bins_size in
    record { bins_size = size; dirty = marked_below (is_marked_in_bitmap (bitmap_in bytes size)) (size / 512) }

-- the bytes of the pages that a log marks, in rising order
abbrev pub page_bytes_in : List ℕ → List ℕ
page_bytes_in bytes = take (512 * dirty_count (pages_in bytes)) (drop (pages_at (block_of bytes).bins_size) bytes)

-- the letters and the bitmap are there
abbrev pub HasBitmap : List ℕ → ℕ → Type 0
HasBitmap bytes size = (take 4 (drop 512 bytes) ≡ codes "DIRT") × (bitmap_end size ≤ length bytes)

-- that many bytes of pages are there, if any
abbrev pub HasPages : List ℕ → ℕ → ℕ → Type 0
HasPages bytes start len = len ≢ 0 → start + len ≤ length bytes

-- a whole log: a clean block of a log that may be used, `DIRT`, the bitmap, and each page that it marks. What
-- follows is unread. A log that marks no page is whole with its bitmap.
pub record LogIsWhole (bytes : List ℕ) : Type 0 where
  pub block : IsLog (block_of bytes)
  pub bitmap : HasBitmap bytes (block_of bytes).bins_size
  pub pages : HasPages bytes (pages_at (block_of bytes).bins_size) (512 * dirty_count (pages_in bytes))

-- each page is dirty or lies in the first len bytes whole
abbrev pub IsCovered : ℕ → Pages → Type 0
IsCovered len v = (page : ℕ) → page < v.bins_size / 512 → is_dirty v page ≡ false → 512 * (page + 1) ≤ len

-- a byte of the repaired bins data: the log's if its page is dirty, else the primary file's. The
-- log's pages are in rising order.
abbrev pub repaired_byte : List ℕ → Pages → List ℕ → ℕ → ℕ
repaired_byte image v pages i = if is_dirty v (i / 512) then slice_index pages (512 * marked_count (is_dirty v) (i / 512) + i % 512) else slice_index image i

-- the repaired bins data, of the log's size: the primary file's with each dirty page replaced
unfoldable pub repaired : List ℕ → Pages → List ℕ → List ℕ
repaired image v pages = map (repaired_byte image v pages) (range_with_len 0 v.bins_size)

-- where the bytes of a log end that are read: after the last page that it marks, or after the
-- bitmap if it marks none
abbrev pub log_end : List ℕ → ℕ
log_end bytes =
    let size = (block_of bytes).bins_size in
    let count = dirty_count (pages_in bytes) in
    if count == 0 then bitmap_end size else pages_at size + 512 * count

-- a block that a log of these pages may have: usable, of a log's version, with equal numbers, and of their size
pub record IsLoggable (b : BaseBlock) (v : Pages) : Type 0 where
  pub usable : IsUsable b
  pub version : IsLogVersion b
  pub equal : b.primary.0 ≡ b.secondary.0
  pub size : b.bins_size ≡ v.bins_size

-- a log's encoding is whole, and has this block, these pages and their bytes
pub record LogDecodesTo (encoding : List ℕ) (b : BaseBlock) (v : Pages) (pages : List ℕ) : Type 0 where
  pub whole : LogIsWhole encoding
  pub base : block_of encoding ≡ b
  pub marked : pages_in encoding ≡ v
  pub bytes : page_bytes_in encoding ≡ pages

-- the block of a log as it is read
abbrev pub block_as_read : BaseBlock → BaseBlock
block_as_read b = record b { file_type = record { 0 = 1 }; sum_is_right = true }
