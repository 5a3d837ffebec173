use Rattle.std.proofs.Common.{OnOk, subst}
use Rattle.persistent_map.specs.Children.{node_kind, IsMore}
use Rattle.persistent_map.proofs.child.MapNodeChild.edit.Goals as goal

pub returns : goal.returns
returns g c =
    subst (λ es. OnOk c.add_node.result (IsMore (node_kind g.P.Child.kind) es c.args.made.now.items c.add_node.new.made.items)) (rw c.deref.ensures at (rw c.deref-2.ensures.value at c.in_ok-children.ensures.entries)) c.add_node.ensures
