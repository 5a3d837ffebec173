use Rattle.persistent_map.specs.Listings.{entries}
use Rattle.reg_tree_parts.specs.Nodes.{root_name}
use Rattle.reg_tree_parts.proofs.NodeLists.{put_written, nodes_put, rows_put_same, rows_put_other}
use Rattle.reg_tree_parts.proofs.node.Node.with_child.Goals as goal

pub with-requires : goal.with-requires
with-requires c = record { fits = c.self.invariant.fits; sorted = c.self.invariant.rises }

pub from_parts-requires-clause-nodes : goal.from_parts-requires-clause-nodes
from_parts-requires-clause-nodes c = (nodes_put (entries root_name c.self.inside.subkeys) c.self.invariant.rises (entries root_name c.in_ok-subkeys.subkeys) (root_name c.args.child.value) c.args.child.value c.requires.node c.self.invariant.nodes (put_written c.args.child.value (entries root_name c.self.inside.subkeys) (entries root_name c.in_ok-subkeys.subkeys) c.in_ok-subkeys.ensures.entries)).0

pub from_parts-requires-clause-rises : goal.from_parts-requires-clause-rises
from_parts-requires-clause-rises c = (nodes_put (entries root_name c.self.inside.subkeys) c.self.invariant.rises (entries root_name c.in_ok-subkeys.subkeys) (root_name c.args.child.value) c.args.child.value c.requires.node c.self.invariant.nodes (put_written c.args.child.value (entries root_name c.self.inside.subkeys) (entries root_name c.in_ok-subkeys.subkeys) c.in_ok-subkeys.ensures.entries)).1

pub returns-clause-child : goal.returns-clause-child
returns-clause-child c = rw c.from_parts.ensures.is (rows_put_same (entries root_name c.self.inside.subkeys) c.self.invariant.rises c.args.key (entries root_name c.in_ok-subkeys.subkeys) (root_name c.args.child.value) c.args.child.value (put_written c.args.child.value (entries root_name c.self.inside.subkeys) (entries root_name c.in_ok-subkeys.subkeys) c.in_ok-subkeys.ensures.entries))

pub returns-clause-others : goal.returns-clause-others
returns-clause-others c = rw (c.from_parts.ensures.is, ← c.self.view_is) (rows_put_other (entries root_name c.self.inside.subkeys) c.self.invariant.rises c.args.key c.self.inside.key (entries root_name c.in_ok-subkeys.subkeys) (root_name c.args.child.value) c.args.child.value (put_written c.args.child.value (entries root_name c.self.inside.subkeys) (entries root_name c.in_ok-subkeys.subkeys) c.in_ok-subkeys.ensures.entries))
