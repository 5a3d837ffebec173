use Rattle.std.proofs.Common.{length}
use Rattle.recovery_report.proofs.report_text.+write_runs.Given as goal

abbrev pub decreases-write_runs : goal.decreases-write_runs
decreases-write_runs g l = length l.runs.now
