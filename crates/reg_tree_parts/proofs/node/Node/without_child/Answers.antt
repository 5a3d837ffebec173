use Rattle.persistent_map.specs.Listings.{entries}
use Rattle.reg_tree_parts.specs.Nodes.{root_name}
use Rattle.reg_names.specs.Names.{folded}
use Rattle.reg_tree_parts.proofs.NodeLists.{nodes_where, rows_where_gone, rows_where_other}
use Rattle.reg_tree_parts.proofs.node.Node.without_child.Goals as goal

pub without-requires : goal.without-requires
without-requires c = record { fits = c.self.invariant.fits; sorted = c.self.invariant.rises }

pub from_parts-requires-clause-nodes : goal.from_parts-requires-clause-nodes
from_parts-requires-clause-nodes c = (nodes_where (entries root_name c.self.inside.subkeys) c.self.invariant.rises (entries root_name c.in_ok-subkeys.subkeys) _ c.self.invariant.nodes c.in_ok-subkeys.ensures.entries).0

pub from_parts-requires-clause-rises : goal.from_parts-requires-clause-rises
from_parts-requires-clause-rises c = (nodes_where (entries root_name c.self.inside.subkeys) c.self.invariant.rises (entries root_name c.in_ok-subkeys.subkeys) _ c.self.invariant.nodes c.in_ok-subkeys.ensures.entries).1

pub returns-clause-gone : goal.returns-clause-gone
returns-clause-gone c = rw c.from_parts.ensures.is (rows_where_gone (entries root_name c.self.inside.subkeys) c.self.invariant.rises c.args.key (entries root_name c.in_ok-subkeys.subkeys) (folded c.args.name.now) c.in_ok-subkeys.ensures.entries)

pub returns-clause-others : goal.returns-clause-others
returns-clause-others c = rw (c.from_parts.ensures.is, ← c.self.view_is) (rows_where_other (entries root_name c.self.inside.subkeys) c.self.invariant.rises c.args.key c.self.inside.key (entries root_name c.in_ok-subkeys.subkeys) (folded c.args.name.now) c.in_ok-subkeys.ensures.entries)
