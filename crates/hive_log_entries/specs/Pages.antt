-- The pages of an entry (regf format, new transaction log: dirty pages references, dirty pages).
use Rattle.std.specs.Prelude.{ℕ, zero, suc, ◌+◌, ◌*◌, ◌%◌, ◌==◌, nat_le, not, Bool, true, ◌&&◌, List, length, take, drop}
use Rattle.base_block.specs.Layout.{number_at}
use Rattle.hive_log_entries.specs.declared.pages.PageReference.{PageReference}

-- the size of the bins data after an entry, and how many pages the entry has
abbrev pub bins_size_of : List ℕ → ℕ
bins_size_of bytes = number_at 16 4 bytes

abbrev pub page_count : List ℕ → ℕ
page_count bytes = number_at 20 4 bytes

-- the reference of an index: 8 bytes, from offset 40 on
abbrev pub reference_at : List ℕ → ℕ → PageReference
reference_at bytes index = record { offset = number_at (40 + 8 * index) 4 bytes; size = number_at (40 + 8 * index + 4) 4 bytes }

-- a page of bins data of a size: its offset and its size are multiples of 512, the size isn't 0, and it ends within them
abbrev pub is_page : ℕ → PageReference → Bool
is_page bins_size page = (page.offset % 512 == 0) && (page.size % 512 == 0) && not (page.size == 0) && nat_le (page.offset + page.size) bins_size

-- where the bytes of the page of an index begin: behind the references and the pages before it
abbrev pub page_start : List ℕ → ℕ → ℕ
page_start bytes zero = 40 + 8 * page_count bytes
page_start bytes (suc index) = page_start bytes index + (reference_at bytes index).size

-- the page of an index is one of the bins data, and its bytes are within the entry
abbrev pub page_stands : List ℕ → ℕ → Bool
page_stands bytes index = is_page (bins_size_of bytes) (reference_at bytes index) && nat_le (page_start bytes (suc index)) (length bytes)

-- each of the first n pages stands
abbrev pub pages_stand : List ℕ → ℕ → Bool
pages_stand bytes zero = true
pages_stand bytes (suc n) = pages_stand bytes n && page_stands bytes n

-- all references are within the entry, and all pages stand
unfoldable pub has_pages : List ℕ → Bool
has_pages bytes = nat_le (page_start bytes 0) (length bytes) && pages_stand bytes (page_count bytes)

-- the bytes of the page of an index
abbrev pub page_bytes : List ℕ → ℕ → List ℕ
page_bytes bytes index = take (reference_at bytes index).size (drop (page_start bytes index) bytes)
