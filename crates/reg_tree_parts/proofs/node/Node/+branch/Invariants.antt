use Rattle.std.proofs.Common.{length}
use Rattle.reg_tree_parts.proofs.node.Node.+branch.Given as goal

abbrev pub decreases-branch : goal.decreases-branch
decreases-branch l = length l.further.now
