use Rattle.persistent_map.specs.Listings.{children_entries}
use Rattle.persistent_map.specs.Children.{node_kind}
use Rattle.persistent_map.proofs.Adds.{all_children, all_entries}
use Rattle.persistent_map.proofs.map_node.nodes_of.Goals as goal

pub returns-clause-entries : goal.returns-clause-entries
returns-clause-entries g c =
    rw c.deref.ensures.value at (all_entries (node_kind g.P.Child.kind) (children_entries g.P.Child.kind.list c.deref.result.now) c.new-made.result.items c.add_nodes.new.made.items c.new-made.ensures.items c.in_ok-add_nodes.ensures)

pub returns-clause-children : goal.returns-clause-children
returns-clause-children g c = all_children (node_kind g.P.Child.kind) (children_entries g.P.Child.kind.list c.deref.result.now) c.new-made.result.items c.add_nodes.new.made.items c.new-made.ensures.items c.in_ok-add_nodes.ensures
