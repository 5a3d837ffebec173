use Rattle.std.proofs.Common.{◌≡◌, min, map, take, sum_by}
use Rattle.std.specs.Arc.{arc_value}
use Rattle.persistent_map.proofs.map_node.totals_of.Given as goal

abbrev pub invariant-loop-child : goal.invariant-loop-child
invariant-loop-child g l = record {
  count : l.count ≡ sum_by g.P.Child.kind.count (map arc_value (take l.child-index l.children));
  weight : l.weight ≡ min (sum_by g.P.Child.kind.weight (map arc_value (take l.child-index l.children))) 18446744073709551615;
}
