-- The encoding of a log (regf format, old transaction log).
use Rattle.std.specs.Prelude.{ℕ, ◌+◌, ◌-◌, ◌*◌, ◌/◌, List, ◌++◌, take, drop, filter, codes}
use Rattle.std.specs.List.{range_with_len, flat_map}
use Rattle.base_block.specs.declared.block.BaseBlock.{BaseBlock}
use Rattle.base_block.specs.Layout.{sector_of, zeros}
use Rattle.dirty_vector.specs.Pages.{Pages, is_dirty, bitmap_of}

-- where the bitmap of bins data of a size ends: after a sector, four letters, and a byte for each
-- 4,096 bytes
abbrev pub bitmap_end : ℕ → ℕ
bitmap_end size = 516 + size / 4096

-- where the pages begin: the end of the bitmap, rounded up to a multiple of 512
abbrev pub pages_at : ℕ → ℕ
pages_at size = (bitmap_end size + 511) / 512 * 512

-- a page of an image
abbrev pub page_of : List ℕ → ℕ → List ℕ
page_of image page = take 512 (drop (512 * page) image)

-- the bytes of the dirty pages among n pages from a page on, in rising order
unfoldable pub dirty_bytes : List ℕ → Pages → ℕ → ℕ → List ℕ
dirty_bytes image v page n = flat_map (page_of image) (filter (is_dirty v) (range_with_len page n))

-- the same of all pages from a page on
abbrev pub pages_from : List ℕ → Pages → ℕ → List ℕ
pages_from image v page = dirty_bytes image v page (v.bins_size / 512 - page)

-- a block as the block of a log
abbrev pub log_block : BaseBlock → BaseBlock
log_block b = record b { file_type = record { 0 = 1 } }

-- what comes before the pages: a sector, `DIRT`, the bitmap, and zeros up to a multiple of 512
unfoldable pub head_bytes : Pages → List ℕ → List ℕ
head_bytes v sector = sector ++ codes "DIRT" ++ bitmap_of (is_dirty v) (v.bins_size / 4096) ++ zeros (pages_at v.bins_size - bitmap_end v.bins_size)

-- the encoding of a log whose first sector is given
unfoldable pub bytes_behind : List ℕ → Pages → List ℕ → List ℕ
bytes_behind image v sector = head_bytes v sector ++ pages_from image v 0

-- the one encoding of the log of an image, its dirty pages and its base block
abbrev pub log_bytes : List ℕ → Pages → BaseBlock → List ℕ
log_bytes image v b = bytes_behind image v (sector_of (log_block b))
