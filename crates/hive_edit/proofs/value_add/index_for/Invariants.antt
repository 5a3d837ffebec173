use Rattle.std.proofs.Common.{◌-◌, ◌≤◌}
use Rattle.hive_edit.proofs.value_add.index_for.Given as goal

abbrev pub invariant-loop-low : goal.invariant-loop-low
invariant-loop-low l = record { below : l.low ≤ l.high; within : l.high ≤ l.count }

abbrev pub decreases-loop-low : goal.decreases-loop-low
decreases-loop-low l = l.high - l.low
