use Rattle.std.proofs.Common.{◌≤◌}
use Rattle.hive_cells.specs.Starts.{NoStart}
use Rattle.hive_cells.proofs.starts.last_start.Given as goal

abbrev pub invariant-loop-end : goal.invariant-loop-end
invariant-loop-end l = (l.end ≤ l.high) × NoStart l.starts l.end l.high

abbrev pub decreases-loop-end : goal.decreases-loop-end
decreases-loop-end l = l.end
