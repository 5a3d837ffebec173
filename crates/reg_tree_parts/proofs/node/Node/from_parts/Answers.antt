use Rattle.persistent_map.specs.Listings.{entries}
use Rattle.persistent_map.specs.Keyed.{entries_keyed}
use Rattle.reg_tree_parts.specs.Nodes.{root_name}
use Rattle.reg_tree_parts.proofs.NodeLists.{weighs_whole}
use Rattle.reg_tree_parts.proofs.Parents.{is_node}
use Rattle.reg_tree_parts.proofs.node.Node.from_parts.Goals as goal

pub invariant_of-result : goal.invariant_of-result
invariant_of-result c = record {
  nodes = c.requires.nodes;
  rises = c.requires.rises;
  fits = c.requires.fits;
  weighs = weighs_whole c.args.key (entries root_name c.args.subkeys) _ _ _ c.weight.ensures c.weight-2.ensures c.saturating_add-weight.ensures;
}

pub returns-clause-node : goal.returns-clause-node
returns-clause-node c = is_node _ (entries root_name c.args.subkeys) (entries_keyed root_name c.args.subkeys) c.requires.nodes c.requires.rises
