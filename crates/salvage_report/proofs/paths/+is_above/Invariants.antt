use Rattle.std.proofs.Common.{length}
use Rattle.salvage_report.proofs.paths.+is_above.Given as goal

abbrev pub decreases-is_above : goal.decreases-is_above
decreases-is_above l = length l.names.now
