use Rattle.std.proofs.Common.{refl, sym, ◌∙◌, ap, subst}
use Rattle.reg_names.specs.Names.{folded}
use Rattle.persistent_map.specs.Children.{IsChild, node_kind}
use Rattle.persistent_map.proofs.Sums.{node_is}
use Rattle.persistent_map.proofs.map_node.node_of.Goals as goal

pub returns-clause-child : goal.returns-clause-child
returns-clause-child g c =
    subst (IsChild (node_kind g.P.Child.kind)) (sym c.in_ok-made.ensures.ok)
    (node_is g.P.Child.kind c.args.children.items _ c.index.result.now c.requires.children c.requires.some refl c.index.ensures
    (ap folded c.in_ok-first.ensures ∙ c.first.ensures ∙ ap g.P.Child.kind.first c.deref-2.ensures) (rw c.deref.ensures.value at c.in_ok-count.ensures.count) (rw c.deref.ensures.value at c.in_ok-count.ensures.weight))
