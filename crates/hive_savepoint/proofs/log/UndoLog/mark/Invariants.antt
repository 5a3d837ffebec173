use Rattle.std.proofs.Common.{◌≡◌, ℕ, ◌*◌, ◌<◌, false, take, drop, slice_index}
use Rattle.dirty_vector.specs.Pages.{is_dirty}
use Rattle.hive_savepoint.proofs.log.UndoLog.mark.Given as goal

abbrev pub invariant-loop-index : goal.invariant-loop-index
invariant-loop-index l = record {
  size : l.pages.bins_size ≡ l.fn.pages.bins_size;
  kept : (page : ℕ) → is_dirty l.pages page ≡ false → is_dirty l.fn.pages page ≡ false;
  same : (k : ℕ) → k < l.index → is_dirty l.pages (slice_index l.self.order k) ≡ false → take 512 (drop (512 * slice_index l.self.order k) l.now) ≡ take 512 (drop (512 * k) l.self.bytes);
}
