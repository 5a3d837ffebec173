use Rattle.std.proofs.Common.{length}
use Rattle.key_walk.proofs.subtree.+walk_from.Given as goal

abbrev pub decreases-walk_from : goal.decreases-walk_from
decreases-walk_from g l = length l.path.now
