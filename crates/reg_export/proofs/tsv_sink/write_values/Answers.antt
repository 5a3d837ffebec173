use Rattle.std.proofs.Common.{List, ℕ, arith, sym, ap, subst, ◌∙◌, take_all}
use Rattle.std.specs.List.{flat_map}
use Rattle.std.specs.FinMap as finite
use Rattle.std.specs.Io.KnownBytes.{Appends}
use Rattle.reg_tree_parts.specs.declared.value.Value.{Value}
use Rattle.reply_lines.proofs.Written.{appends_both}
use Rattle.key_walk.specs.KeyPaths.{names_on}
use Rattle.key_walk.proofs.Rows.{next_rows}
use Rattle.tree_printer.proofs.ValueLists.{is_there, values_long}
use Rattle.reg_export.specs.TsvTexts.{tsv_key_fields, tsv_value_line}
use Rattle.reg_export.proofs.tsv_sink.write_values.Goals as goal

pub unreachable-requires : goal.unreachable-requires
unreachable-requires g c = is_there (finite.values c.values-values.result.now) c.loop-index.index (omega (arith, c.loop-index-test.true, c.len-index-end.ensures, values_long c.values-values.result.now)) c.in_default.ensures

pub loop-index-preserved : goal.loop-index-preserved
loop-index-preserved g c = appends_both _ _ _ _ _ _ c.loop-index.invariant c.in_ok-write_value.ensures (next_rows (tsv_value_line (tsv_key_fields c.args.hive (names_on c.args.path.now, c.args.key.now))) (finite.values c.values-values.result.now) c.loop-index.index c.in-Some.value.now (sym c.in-Some.ensures))

pub returns : goal.returns
returns g c =
    let text : Value → List ℕ = tsv_value_line (tsv_key_fields c.args.hive (names_on c.args.path.now, c.args.key.now)) in
    subst (Appends (g.W.Write.contents c.args.writer.now) (g.W.Write.contents c.loop-index.writer))
    (ap (flat_map text) (take_all c.loop-index.index (finite.values c.values-values.result.now) (omega (arith, c.loop-index-test.false, c.len-index-end.ensures, values_long c.values-values.result.now))) ∙ ap (λ vs. flat_map text (finite.values vs)) c.values-values.ensures) c.loop-index.invariant
