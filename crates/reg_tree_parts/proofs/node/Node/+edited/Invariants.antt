use Rattle.std.proofs.Common.{length}
use Rattle.reg_tree_parts.proofs.node.Node.+edited.Given as goal

abbrev pub decreases-edited : goal.decreases-edited
decreases-edited g l = length l.path.now
