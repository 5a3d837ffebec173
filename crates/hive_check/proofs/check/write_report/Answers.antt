use Rattle.std.proofs.Common.{Bool, subst}
use Rattle.std.specs.Io.KnownBytes.{Appends}
use Rattle.hive_check.specs.ReportTexts.{finding_text}
use Rattle.hive_check.proofs.Texts.{on_all, report_written}
use Rattle.hive_check.proofs.check.write_report.Goals as goal

pub returns : goal.returns
returns g c =
    let contents = g.W.Write.contents in
    let report = c.args.report.now in
    let found = subst (λ (is_log : Bool). Appends (contents c.write_block.new.writer) (contents c.write_finding.new.writer) (finding_text is_log report.finding)) c.is_of_log.ensures c.in_ok-write_finding.ensures in
    on_all c.flush.result (report_written report _ _ _ _ c.in_ok-write_block.ensures found c.flush.ensures.bytes)
