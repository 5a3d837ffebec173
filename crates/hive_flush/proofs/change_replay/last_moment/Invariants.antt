use Rattle.std.proofs.Common.{◌≡◌, length}
use Rattle.hive_flush.specs.Times.{time_after}
use Rattle.hive_flush.proofs.change_replay.last_moment.Given as goal

abbrev pub invariant-changes : goal.invariant-changes
invariant-changes l = time_after l.hive l.left l.otherwise ≡ time_after l.hive l.fn.changes l.otherwise

abbrev pub decreases-changes : goal.decreases-changes
decreases-changes l = length l.left
