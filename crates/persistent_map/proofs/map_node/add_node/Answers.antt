use Rattle.persistent_map.specs.Listings.{children_entries}
use Rattle.persistent_map.specs.Children.{node_kind}
use Rattle.persistent_map.proofs.Adds.{on_ok, child_added}
use Rattle.persistent_map.proofs.map_node.add_node.Goals as goal

pub returns : goal.returns
returns g c = on_ok c.add.result (λ pushed. child_added (node_kind g.P.Child.kind) (children_entries g.P.Child.kind.list c.args.children.items) c.in_ok-node_of.field-0 c.args.made.now.items c.add.new.made.items pushed c.in_ok-node_of.ensures.entries c.in_ok-node_of.ensures.child) c.add.ensures
