use Rattle.std.proofs.Common.{arith, sym, ap, subst, take_all}
use Rattle.std.specs.List.{flat_map}
use Rattle.std.specs.FinMap as finite
use Rattle.key_walk.proofs.Rows.{next_rows}
use Rattle.tree_printer.proofs.ValueLists.{is_there, values_long}
use Rattle.reg_export.specs.Encodings.{Prints}
use Rattle.reg_export.specs.RegTexts.{reg_value_line}
use Rattle.reg_export.specs.SinkLaws.{prints_both, prints_nothing}
use Rattle.reg_export.proofs.reg_value.write_values.Goals as goal

pub unreachable-requires : goal.unreachable-requires
unreachable-requires g c = is_there (finite.values c.args.values.now) c.loop-index.index (omega (arith, c.loop-index-test.true, c.len-index-end.ensures, values_long c.args.values.now)) c.in_default.ensures

pub loop-index-init : goal.loop-index-init
loop-index-init g c = prints_nothing c.args.encoding (g.W.Write.contents c.args.writer.now)

pub loop-index-preserved : goal.loop-index-preserved
loop-index-preserved g c = prints_both c.args.encoding _ _ _ _ _ _ c.loop-index.invariant c.in_ok-write_value.ensures (next_rows reg_value_line (finite.values c.args.values.now) c.loop-index.index c.in-Some.value.now (sym c.in-Some.ensures))

pub returns : goal.returns
returns g c = subst (Prints c.args.encoding (g.W.Write.contents c.args.writer.now) (g.W.Write.contents c.loop-index.writer)) (ap (flat_map reg_value_line) (take_all c.loop-index.index (finite.values c.args.values.now) (omega (arith, c.loop-index-test.false, c.len-index-end.ensures, values_long c.args.values.now)))) c.loop-index.invariant
