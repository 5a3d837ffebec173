use Rattle.std.proofs.Common.{length}
use Rattle.persistent_map.proofs.map_node.+add_nodes.Given as goal

abbrev pub decreases-add_nodes : goal.decreases-add_nodes
decreases-add_nodes g l = length l.children.now
