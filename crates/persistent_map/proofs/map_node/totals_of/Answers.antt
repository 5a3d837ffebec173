use Rattle.std.proofs.Common.{arith, ap}
use Rattle.persistent_map.proofs.Sums.{sum_next}
use Rattle.persistent_map.proofs.map_node.totals_of.Goals as goal

pub loop-child-preserved : goal.loop-child-preserved
loop-child-preserved g l = record {
  count = omega (arith, l.in-Some.ensures.1, l.count.ensures, ap g.P.Child.kind.count l.deref.ensures, l.loop-child.invariant.count, sum_next g.P.Child.kind.count l.args.children.now l.loop-child.child-index l.child-item.result l.loop-child-test.true l.child-item.is);
  weight = omega (arith, l.saturating_add-weight.ensures, l.entry_weight.ensures, ap g.P.Child.kind.weight l.deref-in-loop-child.ensures, l.loop-child.invariant.weight, sum_next g.P.Child.kind.weight l.args.children.now l.loop-child.child-index l.child-item.result l.loop-child-test.true l.child-item.is);
}
