use Rattle.std.proofs.Common.{length}
use Rattle.store_export.proofs.hive_part.+print_below.Given as goal

abbrev pub decreases-print_below : goal.decreases-print_below
decreases-print_below g l = length l.path.now
