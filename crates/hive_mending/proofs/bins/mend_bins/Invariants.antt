use Rattle.std.proofs.Common.{◌≡◌, ◌-◌, ◌%◌, ◌≤◌, length}
use Rattle.hive_mending.specs.Mending.{IsMendedTo}
use Rattle.hive_mending.proofs.bins.mend_bins.Given as goal

abbrev pub invariant-loop-at : goal.invariant-loop-at
invariant-loop-at l =
    record {
      pages : l.at % 4096 ≡ 0;
      within : l.at ≤ length l.bytes;
      mended : IsMendedTo l.fn.bytes l.bytes l.gaps.items l.at l.at;
    }

abbrev pub decreases-loop-at : goal.decreases-loop-at
decreases-loop-at l = length l.bytes - l.at
