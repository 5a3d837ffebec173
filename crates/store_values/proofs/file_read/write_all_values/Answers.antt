use Rattle.std.proofs.Common.{arith, sym, ap, subst, take_all}
use Rattle.std.specs.List.{flat_map}
use Rattle.std.specs.FinMap as finite
use Rattle.std.specs.Io.KnownBytes.{Appends}
use Rattle.reply_lines.proofs.Written.{appends_both}
use Rattle.key_walk.proofs.Rows.{next_rows}
use Rattle.tree_printer.proofs.ValueLists.{is_there, values_long}
use Rattle.store_values.specs.Answers.{value_line}
use Rattle.store_values.proofs.file_read.write_all_values.Goals as goal

pub unreachable-requires : goal.unreachable-requires
unreachable-requires g c = is_there (finite.values c.args.values.now) c.loop-index.index (omega (arith, c.loop-index-test.true, c.len-index-end.ensures, values_long c.args.values.now)) c.in_default.ensures

pub loop-index-preserved : goal.loop-index-preserved
loop-index-preserved g c = appends_both _ _ _ _ _ _ c.loop-index.invariant c.in_ok-write_value.ensures (next_rows value_line (finite.values c.args.values.now) c.loop-index.index c.in-Some.value.now (sym c.in-Some.ensures))

pub returns : goal.returns
returns g c = subst (Appends (g.W.Write.contents c.args.writer.now) (g.W.Write.contents c.loop-index.writer))
    (ap (flat_map value_line) (take_all c.loop-index.index (finite.values c.args.values.now) (omega (arith, c.loop-index-test.false, c.len-index-end.ensures, values_long c.args.values.now)))) c.loop-index.invariant
