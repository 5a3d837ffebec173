use Rattle.std.proofs.Common.{◌-◌, ◌≡◌, ◌<◌, ◌≤◌, length, true, false, get_or}
use Rattle.std.specs.Ordering.{is_lt}
use Rattle.std.specs.Arc.{arc_value}
use Rattle.reg_names.specs.Names.{folded}
use Rattle.persistent_map.specs.Orders.{name_order}
use Rattle.persistent_map.proofs.map_node.child_index.Given as goal

abbrev pub invariant-loop-low : goal.invariant-loop-low
invariant-loop-low g l = record {
  order : l.low < l.high;
  in_range : l.high ≤ length l.children;
  reached : (d : _) → 0 < l.low → is_lt (name_order (folded l.name) (g.P.Child.kind.first (arc_value (get_or l.children l.low d)))) ≡ false;
  before_next : (d : _) → l.high < length l.children → is_lt (name_order (folded l.name) (g.P.Child.kind.first (arc_value (get_or l.children l.high d)))) ≡ true;
}

abbrev pub decreases-loop-low : goal.decreases-loop-low
decreases-loop-low g l = l.high - l.low
