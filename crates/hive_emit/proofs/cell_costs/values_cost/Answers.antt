use Rattle.std.proofs.Common.{sum_by, sym, ap, arith}
use Rattle.std.specs.FinMap as finite
use Rattle.std.proofs.lemmas.List.{take_all}
use Rattle.hive_emit.specs.CellCosts.{value_cost}
use Rattle.hive_emit.proofs.ValueMaps.{not_past, values_long}
use Rattle.hive_emit.proofs.Sums.{sum_next, sum_within}
use Rattle.hive_emit.proofs.cell_costs.values_cost.Goals as goal

pub unreachable-requires : goal.unreachable-requires
unreachable-requires c = not_past (finite.values c.args.values.now) c.loop-index.index (omega (arith, values_long c.args.values.now, c.len-index-end.ensures, c.loop-index-test.true)) (sym c.in_default.ensures)

pub overflow_add-sum : goal.overflow_add-sum
overflow_add-sum c = let most = sum_within value_cost (finite.values c.args.values.now) c.loop-index.index c.in-Some.value.now (sym c.in-Some.ensures) in omega (arith, most, c.loop-index.invariant, c.value_cost-sum.ensures, c.requires.fits)

pub loop-index-preserved : goal.loop-index-preserved
loop-index-preserved c = omega (arith, c.loop-index.invariant, c.value_cost-sum.ensures, sum_next value_cost (finite.values c.args.values.now) c.loop-index.index c.in-Some.value.now (sym c.in-Some.ensures))

pub returns : goal.returns
returns c =
    let all = ap (sum_by value_cost) (take_all c.loop-index.index (finite.values c.args.values.now) (omega (arith, values_long c.args.values.now, c.len-index-end.ensures, c.loop-index-test.false))) in
    omega (arith, c.loop-index.invariant, all)
