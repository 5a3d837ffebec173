use Rattle.std.proofs.Common.{subst}
use Rattle.persistent_map.specs.Listings.{entries}
use Rattle.persistent_map.specs.Keyed.{entries_keyed}
use Rattle.reg_tree_parts.specs.Nodes.{IsNode, root_name}
use Rattle.reg_tree_parts.proofs.Parents.{is_node}
use Rattle.reg_tree_parts.proofs.node.Node.key.Goals as goal

pub returns-clause-node : goal.returns-clause-node
returns-clause-node c = subst IsNode c.self.view_is (is_node _ (entries root_name c.self.inside.subkeys) (entries_keyed root_name c.self.inside.subkeys) c.self.invariant.nodes c.self.invariant.rises)
