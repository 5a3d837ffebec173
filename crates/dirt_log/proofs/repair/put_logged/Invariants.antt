use Rattle.std.proofs.Common.{◌≡◌, ◌-◌, length}
use Rattle.dirty_vector.specs.Marks.{marked_count}
use Rattle.dirty_vector.specs.Pages.{is_dirty}
use Rattle.dirt_log.proofs.Replaced.{ReplacedTo}
use Rattle.dirt_log.proofs.repair.put_logged.Given as goal

abbrev pub invariant-pages : goal.invariant-pages
invariant-pages l =
    record {
      size : length l.image ≡ l.vector.bins_size;
      index : l.index ≡ marked_count (is_dirty l.vector) l.page;
      bytes : ReplacedTo l.fn.image l.vector l.pages l.image l.page;
    }

abbrev pub decreases-pages : goal.decreases-pages
decreases-pages l = l.vector.bins_size - l.page
