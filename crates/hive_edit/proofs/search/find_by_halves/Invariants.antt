use Rattle.std.proofs.Common.{◌-◌, ◌≤◌}
use Rattle.hive_edit.proofs.search.find_by_halves.Given as goal

abbrev pub invariant-loop-low : goal.invariant-loop-low
invariant-loop-low l = l.high ≤ l.offsets.count

abbrev pub decreases-loop-low : goal.decreases-loop-low
decreases-loop-low l = l.high - l.low
