use Rattle.std.proofs.Common.{◌≡◌, ◌+◌, map, take, sum_by}
use Rattle.std.specs.Arc.{arc_value}
use Rattle.persistent_map.proofs.map_node.nth.Given as goal

abbrev pub invariant-loop-at : goal.invariant-loop-at
invariant-loop-at g l = sum_by g.P.Child.kind.count (map arc_value (take l.at l.children)) + l.rest ≡ l.fn.index
