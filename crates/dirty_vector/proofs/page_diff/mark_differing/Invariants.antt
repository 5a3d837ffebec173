use Rattle.std.proofs.Common.{◌≡◌, ◌≤◌, ◌/◌, ◌<◌, ◌*◌, ◌-◌, ℕ, false, length, slice_index}
use Rattle.dirty_vector.specs.Pages.{is_dirty}
use Rattle.dirty_vector.proofs.page_diff.mark_differing.Given as goal

abbrev pub invariant-pages : goal.invariant-pages
invariant-pages l =
    record {
      size : l.pages.bins_size ≡ l.fn.pages.bins_size;
      within : l.page ≤ length l.fn.old / 512;
      kept : (page : ℕ) → is_dirty l.pages page ≡ false → is_dirty l.fn.pages page ≡ false;
      same : (i : ℕ) → i < 512 * l.page → is_dirty l.pages (i / 512) ≡ false → slice_index l.new i ≡ slice_index l.old i;
    }

abbrev pub decreases-pages : goal.decreases-pages
decreases-pages l = length l.old / 512 - l.page
