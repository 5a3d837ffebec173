use Rattle.std.proofs.Common.{arith, ap, map, sum_by}
use Rattle.std.specs.Arc.{arc_value}
use Rattle.persistent_map.proofs.SortedLists.{whole}
use Rattle.persistent_map.proofs.Sums.{sum_next}
use Rattle.persistent_map.proofs.ChildIndexes.{nth_within}
use Rattle.persistent_map.proofs.map_node.nth.Goals as goal

pub returns-then-rest-count : goal.returns-then-rest-count
returns-then-rest-count g c = record {
  in_range = c.loop-at-test.true;
  before = c.loop-at.invariant;
  within = nth_within g.P.Child.kind.count c.args.children.now c.loop-at.at c.loop-at.rest c.index-children-at.result c.loop-at-test.true c.index-children-at.is (rw (← c.deref.ensures, ← c.count-count.ensures) c.if-rest-count.true);
}

pub loop-at-preserved : goal.loop-at-preserved
loop-at-preserved g l = omega (arith, sum_next g.P.Child.kind.count l.args.children.now l.loop-at.at l.index-children-at.result l.loop-at-test.true l.index-children-at.is, ap g.P.Child.kind.count l.deref.ensures, l.count-count.ensures, l.if-rest-count.false, l.loop-at.invariant)

pub returns : goal.returns
returns g c = omega (arith, ap (λ xs. sum_by g.P.Child.kind.count (map arc_value xs)) (whole c.args.children.now c.loop-at.at c.loop-at-test.false), c.loop-at.invariant)
