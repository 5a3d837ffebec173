use Rattle.std.proofs.Common.{length}
use Rattle.reg_tree_parts.proofs.node.Node.+nearest.Given as goal

abbrev pub decreases-nearest : goal.decreases-nearest
decreases-nearest l = length l.path.now
