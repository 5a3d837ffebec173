use Rattle.std.proofs.Common.{List, ℕ, Option, sym, subst}
use Rattle.std.specs.Io.KnownBytes.{Appends}
use Rattle.hive_check.specs.declared.block_report.BlockReport.{BlockReport}
use Rattle.hive_check.specs.BlockTexts.{IsBlockText}
use Rattle.hive_check.proofs.Texts.{block_shown, on_ok}
use Rattle.hive_check.proofs.block_text.write_block.Goals as goal

pub returns-in-Some : goal.returns-in-Some
returns-in-Some g c =
    let contents = g.W.Write.contents in
    on_ok c.write_fields.result
    (λ printed. subst (λ (report : Option BlockReport). (text : List ℕ) × IsBlockText report text × Appends (contents c.args.writer.now) (contents c.write_fields.new.writer) text) (sym c.in-Some.is)
    (block_shown c.in-Some.report _ _ printed))
    c.write_fields.ensures
