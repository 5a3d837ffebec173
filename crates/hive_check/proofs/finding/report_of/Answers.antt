use Rattle.hive_check.proofs.Findings.{found, reported}
use Rattle.hive_check.proofs.finding.report_of.Goals as goal

pub returns : goal.returns
returns g c =
    let known = g.R.Read.remaining c.args.reader.now in
    let its = c.in_ok-sector in
    reported known its.field-0.sector c.block_report.result c.finding_of.result its.ensures.sector c.block_report.ensures (found known its.field-0.bins c.finding_of.result its.ensures.bins c.finding_of.ensures)
