use Rattle.std.proofs.Common.{◌≤◌, ◌<◌, ◌+◌}
use Rattle.hive_cells.proofs.Lookups.{MostFrom}
use Rattle.hive_cells.proofs.image.lookup.free_in_page.Given as goal

abbrev pub invariant-loop-slot : goal.invariant-loop-slot
invariant-loop-slot l = (l.end ≤ l.first + 512) × (l.most < l.size) × MostFrom l.bytes l.end (l.first + 512) l.most

abbrev pub decreases-loop-slot : goal.decreases-loop-slot
decreases-loop-slot l = l.end
