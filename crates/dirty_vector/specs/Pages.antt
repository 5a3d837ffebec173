-- Dirty pages (regf format, dirty vector): a page is 512 bytes of hive bins data.
use Rattle.std.specs.Prelude.{true, false, ◌≡◌, ◌≤◌, ◌<◌, ℕ, ◌+◌, ◌*◌, ◌/◌, ◌%◌, ◌==◌, nat_le, ◌&&◌, Bool, if◌then◌else◌, List, map, Result, Ok, Err}
use Rattle.std.specs.List.{range_with_len}
use Rattle.std.specs.Ordering.{nat_cmp}
use Rattle.std.specs.FinSet as set
use Rattle.std.specs.Coded.{Coded, code_by, coded×, coded_ℕ}
use Rattle.std.proofs.Common.{refl}
use Rattle.dirty_vector.specs.Marks.{is_marked_in_bitmap, marked_count, marked_below}
use Rattle.refusals.specs.declared.refusal.Refusal.{Refusal}
use Rattle.refusals.specs.declared.refusal.Refusal.TheVariants.{TooLarge}
use Rattle.refusals.specs.declared.limits.TheConstants.{MOST_BINS_BYTES}

-- the dirty pages of bins data of a size
pub record Pages : Type 0 where
  pub bins_size : ℕ
  pub dirty : set.FinSet nat_cmp

abbrev pub pages_code : Coded Pages
pages_code =
    code_by (ℕ × set.FinSet nat_cmp) (coded× coded_ℕ (set.code coded_ℕ)) (λ v. (v.bins_size, v.dirty)) (λ p. record { bins_size = p.0; dirty = p.1 }) (λ _. refl)

-- whether a page is dirty
abbrev pub is_dirty : Pages → ℕ → Bool
is_dirty v page = set.contains v.dirty page

-- how many pages of the bins data are dirty
abbrev pub dirty_count : Pages → ℕ
dirty_count v = marked_count (is_dirty v) (v.bins_size / 512)

-- some byte from start up to end, end left out, lies in the page
abbrev pub Touches : ℕ → ℕ → ℕ → Type 0
Touches start end page = (byte : ℕ) × (start ≤ byte) × (byte < end) × (byte / 512 ≡ page)

-- a size of bins data: a multiple of 4,096, from 4,096 to the limit
abbrev pub is_bins_size : ℕ → Bool
is_bins_size size = (size % 4096 == 0) && nat_le 4096 size && nat_le size MOST_BINS_BYTES

-- bins data of a size without a dirty page
abbrev pub clean_pages : ℕ → Pages
clean_pages size = record { bins_size = size; dirty = set.empty }

-- what making a vector answers: no dirty page, or TooLarge for what is no size of bins data
abbrev pub fresh_pages : ℕ → Result Pages Refusal
fresh_pages size = if is_bins_size size then Ok (clean_pages size) else Err TooLarge

-- what reading a bitmap answers: the pages that it marks, or TooLarge for what is no size of bins data
abbrev pub read_pages : ℕ → List ℕ → Result Pages Refusal
read_pages size bitmap = if is_bins_size size then Ok (record { bins_size = size; dirty = marked_below (is_marked_in_bitmap bitmap) (size / 512) }) else Err TooLarge

-- one bit of a byte
abbrev pub bit_of : Bool → ℕ
bit_of mark = if mark then 1 else 0

-- the k-th byte of the bitmap of a test: its least significant bit is page 8 * k
abbrev pub bitmap_byte : (ℕ → Bool) → ℕ → ℕ
bitmap_byte mark k =
    bit_of (mark (8 * k)) + 2 * bit_of (mark (8 * k + 1)) + 4 * bit_of (mark (8 * k + 2)) + 8 * bit_of (mark (8 * k + 3))
    + 16 * bit_of (mark (8 * k + 4)) + 32 * bit_of (mark (8 * k + 5)) + 64 * bit_of (mark (8 * k + 6)) + 128 * bit_of (mark (8 * k + 7))

-- n bytes of the bitmap of a test
unfoldable pub bitmap_of : (ℕ → Bool) → ℕ → List ℕ
bitmap_of mark n = map (bitmap_byte mark) (range_with_len 0 n)

-- no page from a page on is dirty
abbrev pub NoneFrom : Pages → ℕ → Type 0
NoneFrom v from = (page : ℕ) → from ≤ page → is_dirty v page ≡ false

-- a dirty page before which no page from a page on is dirty
abbrev pub IsNextDirty : Pages → ℕ → ℕ → Type 0
IsNextDirty v from next = (from ≤ next) × (512 * (next + 1) ≤ v.bins_size) × (is_dirty v next ≡ true) × ((page : ℕ) → from ≤ page → page < next → is_dirty v page ≡ false)

-- a dirty page with n dirty pages before it
abbrev pub IsNthDirty : Pages → ℕ → ℕ → Type 0
IsNthDirty v n page = (is_dirty v page ≡ true) × (512 * (page + 1) ≤ v.bins_size) × (marked_count (is_dirty v) page ≡ n)

-- the pages from start up to end, end left out, are the first run of adjacent dirty pages from a page on
pub record IsFirstRun (v : Pages) (from start end : ℕ) : Type 0 where
  pub after : from ≤ start
  pub some : start < end
  pub within : 512 * end ≤ v.bins_size
  pub before : (page : ℕ) → from ≤ page → page < start → is_dirty v page ≡ false
  pub dirty : (page : ℕ) → start ≤ page → page < end → is_dirty v page ≡ true
  pub ended : is_dirty v end ≡ false
