use Rattle.std.proofs.Common.{◌≤◌, ◌-◌}
use Rattle.hive_cells.specs.Starts.{AllBelow}
use Rattle.hive_cells.proofs.free_bounds.FreeBounds.next_page.Given as goal

abbrev pub invariant-loop-page : goal.invariant-loop-page
invariant-loop-page l = (l.from ≤ l.page) × AllBelow l.self l.from l.page l.size

abbrev pub decreases-loop-page : goal.decreases-loop-page
decreases-loop-page l = l.upto - l.page
