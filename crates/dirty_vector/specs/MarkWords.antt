-- How a set of dirty pages is kept in words.
use Rattle.std.specs.Prelude.{◌≡◌, ◌≤◌, ℕ, ◌*◌, ◌/◌, true, false, List, length, replicate}
use Rattle.refusals.specs.declared.limits.TheConstants.{MOST_BINS_BYTES}
use Rattle.dirty_vector.specs.Marks.{is_marked, marked_below}
use Rattle.dirty_vector.specs.Pages.{Pages, is_bins_size}

-- the pages that words mark in bins data of a size
abbrev pub pages_of : ℕ → List ℕ → Pages
pages_of size words = record { bins_size = size; dirty = marked_below (is_marked words) (size / 512) }

-- there are words for the largest bins data, with a bit for each page, and no mark past the last
pub record AreMarkWords (size : ℕ) (words : List ℕ) : Type 0 where
  pub good : is_bins_size size ≡ true
  pub room : size ≤ 32768 * length words
  pub long : length words ≡ MOST_BINS_BYTES / 512 / 64
  pub inside : (page : ℕ) → size / 512 ≤ page → is_marked words page ≡ false

-- words for the largest bins data, without a mark
pub record IsBlank (size : ℕ) (words : List ℕ) : Type 0 where
  pub good : is_bins_size size ≡ true
  pub room : size ≤ 32768 * length words
  pub long : length words ≡ MOST_BINS_BYTES / 512 / 64
  pub zeros : words ≡ replicate (length words) 0
