use Rattle.std.proofs.Common.{arith, ◌/◌, length, ◌∙◌, ap}
use Rattle.persistent_map.specs.Listings.{entries_in, children_entries}
use Rattle.persistent_map.specs.Children.{node_kind}
use Rattle.persistent_map.proofs.Adds.{on_ok, child_added, added_join, halves_entries, front_children, back_children}
use Rattle.persistent_map.proofs.map_node.+add_nodes.Goals as goal

pub add_nodes-requires : goal.add_nodes-requires
add_nodes-requires g t c κs within = (omega (arith, c.decreases, c.split_at.ensures.front_len, c.if-children-le-MAX_CHILDREN.false), (within.0, (within.1, front_children g.P.Child.kind c.args.children.now c.split_at.result.0.now c.split_at.result.1.now (length c.args.children.now / 2) c.split_at.ensures.front c.split_at.ensures.back c.requires)))

pub add_nodes-requires-2 : goal.add_nodes-requires-2
add_nodes-requires-2 g t c κs within = (omega (arith, c.decreases, c.split_at.ensures.back_len, c.if-children-le-MAX_CHILDREN.false), (within.0, (within.1, back_children g.P.Child.kind c.args.children.now c.split_at.result.0.now c.split_at.result.1.now (length c.args.children.now / 2) c.split_at.ensures.front c.split_at.ensures.back c.requires)))

pub returns : goal.returns
returns g t c =
    added_join (node_kind g.P.Child.kind) (children_entries g.P.Child.kind.list c.split_at.result.0.now) (children_entries g.P.Child.kind.list c.split_at.result.1.now) (children_entries g.P.Child.kind.list c.args.children.now) c.args.made.now.items c.add_nodes.new.made.items c.add_nodes-2.new.made.items
    (halves_entries g.P.Child.kind c.args.children.now c.split_at.result.0.now c.split_at.result.1.now (length c.args.children.now / 2) c.split_at.ensures.front c.split_at.ensures.back)
    c.in_ok-add_nodes.ensures c.in_ok-add_nodes-2.ensures

pub returns-then-children-le-MAX_CHILDREN : goal.returns-then-children-le-MAX_CHILDREN
returns-then-children-le-MAX_CHILDREN g t c =
    on_ok c.add.result (λ pushed. child_added (node_kind g.P.Child.kind) (children_entries g.P.Child.kind.list c.args.children.now) c.in_ok-node_of.field-0 c.args.made.now.items c.add.new.made.items pushed (c.in_ok-node_of.ensures.entries ∙ ap (entries_in g.P.Child.kind.list) c.in_ok-copied.ensures) c.in_ok-node_of.ensures.child) c.add.ensures
