use Rattle.std.proofs.Common.{length}
use Rattle.hive_check.proofs.finding_text.+write_path.Given as goal

abbrev pub decreases-write_path : goal.decreases-write_path
decreases-write_path g l = length l.names.now
