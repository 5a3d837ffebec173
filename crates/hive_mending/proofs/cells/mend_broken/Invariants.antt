use Rattle.std.proofs.Common.{◌-◌, ◌≤◌}
use Rattle.hive_mending.specs.Mending.{MendsCells}
use Rattle.hive_mending.proofs.cells.mend_broken.Given as goal

abbrev pub invariant-loop-at : goal.invariant-loop-at
invariant-loop-at l =
    record {
      after : l.first ≤ l.at;
      mends : MendsCells l.fn.bytes l.bytes l.fn.gaps.items l.gaps.items l.end l.first l.at;
    }

abbrev pub decreases-loop-at : goal.decreases-loop-at
decreases-loop-at l = l.end - l.at
