-- Which pages a change of bins data marks.
use Rattle.std.specs.Prelude.{◌≡◌, ℕ, ◌/◌, ◌%◌, ◌<◌, false, List, slice_index}
use Rattle.dirty_vector.specs.Pages.{Pages, is_dirty}

-- A change marks each page that it changes, and each page after the old end; no mark goes.
pub record ChangesAreMarked (old_image : List ℕ) (old_pages : Pages) (new_image : List ℕ) (new_pages : Pages) : Type 0 where
  pub whole : new_pages.bins_size % 512 ≡ 0
  pub within : (page : ℕ) → page < new_pages.bins_size / 512 → is_dirty new_pages page ≡ false → page < old_pages.bins_size / 512
  pub kept : (page : ℕ) → is_dirty new_pages page ≡ false → is_dirty old_pages page ≡ false
  pub same : (i : ℕ) → i < new_pages.bins_size → is_dirty new_pages (i / 512) ≡ false → slice_index new_image i ≡ slice_index old_image i
