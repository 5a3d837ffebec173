use Rattle.std.proofs.Common.{◌+◌, ◌*◌, ◌≤◌}
use Rattle.hive_mending.specs.Restarts.{AreRestarts}
use Rattle.hive_mending.proofs.restarts.fill.Given as goal

abbrev pub invariant-loop-place : goal.invariant-loop-place
invariant-loop-place l =
    record {
      kept : AreRestarts l.bytes l.end l.first l.counts l.next l.place;
      within : l.first + 8 * l.place ≤ l.end;
    }

abbrev pub decreases-loop-place : goal.decreases-loop-place
decreases-loop-place l = l.place
