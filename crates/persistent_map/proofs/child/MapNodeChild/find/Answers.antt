use Rattle.reg_names.specs.Names.{folded}
use Rattle.persistent_map.specs.Children.{IsChildIndex}
use Rattle.persistent_map.proofs.Steps.{child_is, child_sorted, find_answer}
use Rattle.persistent_map.proofs.child.MapNodeChild.find.Goals as goal

pub find-requires-clause-child : goal.find-requires-clause-child
find-requires-clause-child g c =
    let child_index : IsChildIndex g.P.Child.kind.first c.args.self.now.children.items (folded c.args.name.now) c.child_index-at.result = rw c.deref.ensures.value at c.child_index-at.ensures in
    rw c.deref-2.ensures (child_is g.P.Child.kind c.args.self.now.children.items c.requires.child.fits c.requires.sorted (folded c.args.name.now) c.child_index-at.result child_index c.index.result.now c.index.ensures)

pub find-requires-clause-sorted : goal.find-requires-clause-sorted
find-requires-clause-sorted g c =
    let child_index : IsChildIndex g.P.Child.kind.first c.args.self.now.children.items (folded c.args.name.now) c.child_index-at.result = rw c.deref.ensures.value at c.child_index-at.ensures in
    rw c.deref-2.ensures (child_sorted g.P.Child.kind c.args.self.now.children.items c.requires.child.fits c.requires.sorted (folded c.args.name.now) c.child_index-at.result child_index c.index.result.now c.index.ensures)

pub returns-clause-found : goal.returns-clause-found
returns-clause-found g c =
    let child_index : IsChildIndex g.P.Child.kind.first c.args.self.now.children.items (folded c.args.name.now) c.child_index-at.result = rw c.deref.ensures.value at c.child_index-at.ensures in
    find_answer g.P.Child.kind c.args.self.now.children.items c.requires.child.fits c.requires.sorted (folded c.args.name.now) c.child_index-at.result child_index c.index.result.now c.index.ensures c.deref-2.result.now _ c.deref-2.ensures c.find.ensures.found
