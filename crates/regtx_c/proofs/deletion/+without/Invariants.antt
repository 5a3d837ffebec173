use Rattle.std.proofs.Common.{length}
use Rattle.regtx_c.proofs.deletion.+without.Given as goal

abbrev pub decreases-without : goal.decreases-without
decreases-without l = length l.further.now
