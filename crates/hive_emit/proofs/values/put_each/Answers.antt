use Rattle.std.proofs.Common.{◌+◌, [], ◌∷◌, ◌++◌, length, take, sum_by, sym, ap, subst, arith, length-append}
use Rattle.std.specs.FinMap as finite
use Rattle.std.proofs.lemmas.List.{take_all}
use Rattle.hive_emit.specs.CellWrites.{Makes, Uses}
use Rattle.hive_emit.specs.Values.{ListedValues, CanPut}
use Rattle.hive_emit.proofs.ValueMaps.{no_listed, one_listed, take_next, all_at, not_past, values_long}
use Rattle.hive_emit.specs.CellCosts.{value_cost}
use Rattle.hive_emit.proofs.NewCells.{none_used, both_used, stops_later}
use Rattle.hive_emit.proofs.Sums.{sum_next, sum_within}
use Rattle.hive_emit.proofs.values.put_each.Goals as goal

pub loop-index-init : goal.loop-index-init
loop-index-init c = record { made = subst (λ ps. Makes c.args.image.now.bytes c.args.image.now.bytes (ListedValues ps [])) (sym c.new-cell_offsets.ensures.items) (no_listed c.args.image.now.bytes); uses = none_used c.args.image.now.bytes; count = ap length c.new-cell_offsets.ensures.items }

pub unreachable-requires : goal.unreachable-requires
unreachable-requires c = not_past (finite.values c.args.values.now) c.loop-index.index (omega (arith, values_long c.args.values.now, c.len-index-end.ensures, c.loop-index-test.true)) (sym c.in_default.ensures)

pub put_value-requires : goal.put_value-requires
put_value-requires c = all_at CanPut (finite.values c.args.values.now) c.loop-index.index c.in-Some.value.now c.requires.each (sym c.in-Some.ensures)

pub loop-index-preserved : goal.loop-index-preserved
loop-index-preserved c = record {
  made = subst (λ ps. Makes c.args.image.now.bytes c.put_value.new.image.bytes (ListedValues ps (take (c.loop-index.index + 1) (finite.values c.args.values.now)))) (sym c.in_ok-push.ensures.items)
      (subst (λ vs. Makes c.args.image.now.bytes c.put_value.new.image.bytes (ListedValues (c.loop-index.cell_offsets.items ++ c.in-Ok.at ∷ []) vs)) (sym (take_next (finite.values c.args.values.now) c.loop-index.index c.in-Some.value.now (sym c.in-Some.ensures)))
      (one_listed c.args.image.now.bytes c.loop-index.image.bytes c.put_value.new.image.bytes c.loop-index.cell_offsets.items (take c.loop-index.index (finite.values c.args.values.now)) c.in-Ok.at c.in-Some.value.now c.loop-index.invariant.made c.in-Ok.ensures.made));
  uses = subst (Uses c.args.image.now.bytes c.put_value.new.image.bytes) (sym (sum_next value_cost (finite.values c.args.values.now) c.loop-index.index c.in-Some.value.now (sym c.in-Some.ensures)))
      (both_used c.args.image.now.bytes c.loop-index.image.bytes c.put_value.new.image.bytes (sum_by value_cost (take c.loop-index.index (finite.values c.args.values.now))) (value_cost c.in-Some.value.now) c.loop-index.invariant.uses c.in-Ok.ensures.uses);
  count = omega (arith, ap length c.in_ok-push.ensures.items, length-append c.loop-index.cell_offsets.items (c.in-Ok.at ∷ []), c.loop-index.invariant.count);
}

pub returns-clause-made : goal.returns-clause-made
returns-clause-made c = subst (λ vs. Makes c.args.image.now.bytes c.loop-index.image.bytes (ListedValues c.loop-index.cell_offsets.items vs)) (take_all c.loop-index.index (finite.values c.args.values.now) (omega (arith, values_long c.args.values.now, c.len-index-end.ensures, c.loop-index-test.false))) c.loop-index.invariant.made

pub returns-clause-uses : goal.returns-clause-uses
returns-clause-uses c = subst (λ vs. Uses c.args.image.now.bytes c.loop-index.image.bytes (sum_by value_cost vs)) (take_all c.loop-index.index (finite.values c.args.values.now) (omega (arith, values_long c.args.values.now, c.len-index-end.ensures, c.loop-index-test.false))) c.loop-index.invariant.uses

pub returns-in-Err-clause-stops : goal.returns-in-Err-clause-stops
returns-in-Err-clause-stops c = stops_later c.args.image.now.bytes c.loop-index.image.bytes (sum_by value_cost (take c.loop-index.index (finite.values c.args.values.now))) (value_cost c.in-Some.value.now) (sum_by value_cost (finite.values c.args.values.now)) c.in-Err.why (sum_within value_cost (finite.values c.args.values.now) c.loop-index.index c.in-Some.value.now (sym c.in-Some.ensures)) c.loop-index.invariant.uses c.in-Err.ensures.stops
