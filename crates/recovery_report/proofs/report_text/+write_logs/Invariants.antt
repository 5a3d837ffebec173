use Rattle.std.proofs.Common.{length}
use Rattle.recovery_report.proofs.report_text.+write_logs.Given as goal

abbrev pub decreases-write_logs : goal.decreases-write_logs
decreases-write_logs g l = length l.logs.now
