use Rattle.std.proofs.Common.{sym, subst}
use Rattle.persistent_map.specs.Children.{IsChild, IsNth}
use Rattle.persistent_map.proofs.ChildIndexes.{nth_is, nth_answer, no_thing}
use Rattle.persistent_map.proofs.child.MapNodeChild.at.Goals as goal

pub at-requires : goal.at-requires
at-requires g c =
    let nth : IsNth g.P.Child.kind.count c.args.self.now.children.items c.args.index c.in-Some.at c.in-Some.rest = rw c.deref.ensures.value at c.in-Some.ensures in
    subst (IsChild g.P.Child.kind) (sym c.deref-in-Some.ensures) (nth_is g.P.Child.kind c.args.self.now.children.items c.requires.fits c.args.index c.in-Some.at c.in-Some.rest nth c.index.result.now c.index.ensures)

pub returns-in-Some : goal.returns-in-Some
returns-in-Some g c =
    let nth : IsNth g.P.Child.kind.count c.args.self.now.children.items c.args.index c.in-Some.at c.in-Some.rest = rw c.deref.ensures.value at c.in-Some.ensures in
    nth_answer g.P.Child.kind c.args.self.now.children.items c.requires.fits c.args.index c.in-Some.at c.in-Some.rest nth c.index.result.now c.index.ensures c.deref-in-Some.result.now _ c.deref-in-Some.ensures c.at.ensures

pub returns-in-None : goal.returns-in-None
returns-in-None g c = sym (no_thing g.P.Child.kind c.args.self.now.children.items c.requires.fits c.args.index (rw c.deref.ensures.value at c.in-None.ensures))
