use Rattle.std.proofs.Common.{◌≡◌, ℕ, List, ◌++◌, refl, ◌∙◌, ap, subst, map, take}
use Rattle.std.specs.Arc.{arc_value}
use Rattle.persistent_map.specs.Children.{IsChildIndex}
use Rattle.persistent_map.specs.Writes.{edit_name}
use Rattle.persistent_map.proofs.Copies.{spliced}
use Rattle.persistent_map.proofs.Steps.{child_is, child_sorted, edited_step, are_step}
use Rattle.persistent_map.proofs.child.edit_in.Goals as goal

pub edit-requires-clause-child : goal.edit-requires-clause-child
edit-requires-clause-child g c =
    let name : List ℕ = edit_name g.E.MapEntry.key c.args.edit in
    let child_index : IsChildIndex g.P.Child.kind.first c.args.children.now name c.child_index-at.result = subst (λ k. IsChildIndex g.P.Child.kind.first c.args.children.now k c.child_index-at.result) c.name.ensures c.child_index-at.ensures in
    child_is g.P.Child.kind c.args.children.now c.requires.children c.requires.sorted name c.child_index-at.result child_index c.index-children-at.result c.index-children-at.is

pub edit-requires-clause-sorted : goal.edit-requires-clause-sorted
edit-requires-clause-sorted g c =
    let name : List ℕ = edit_name g.E.MapEntry.key c.args.edit in
    let child_index : IsChildIndex g.P.Child.kind.first c.args.children.now name c.child_index-at.result = subst (λ k. IsChildIndex g.P.Child.kind.first c.args.children.now k c.child_index-at.result) c.name.ensures c.child_index-at.ensures in
    child_sorted g.P.Child.kind c.args.children.now c.requires.children c.requires.sorted name c.child_index-at.result child_index c.index-children-at.result c.index-children-at.is

pub returns-clause-entries : goal.returns-clause-entries
returns-clause-entries g c =
    let name : List ℕ = edit_name g.E.MapEntry.key c.args.edit in
    let child_index : IsChildIndex g.P.Child.kind.first c.args.children.now name c.child_index-at.result = subst (λ k. IsChildIndex g.P.Child.kind.first c.args.children.now k c.child_index-at.result) c.name.ensures c.child_index-at.ensures in
    let front : map arc_value c.extend.new.made.items ≡ map arc_value (take c.child_index-at.result c.args.children.now) = c.in_ok-extend.ensures ∙ ap (λ xs. map arc_value xs ++ map arc_value (take c.child_index-at.result c.args.children.now)) c.in_ok-made.ensures.items in
    let edit = c.in_ok-edit.ensures in
    edited_step g.P.Child.kind c.args.children.now c.requires.children c.requires.sorted name c.child_index-at.result child_index c.index-children-at.result c.index-children-at.is (map arc_value edit.0) (map arc_value c.extend-2.new.made.items)
    (spliced c.args.children.now c.extend.new.made.items c.edit.new.made.items c.extend-2.new.made.items edit.0 c.child_index-at.result front edit.1.0 c.in_ok-extend-2.ensures)
    g.E.MapEntry.key g.E.MapEntry.over c.args.edit refl edit.1.1.0

pub returns-clause-children : goal.returns-clause-children
returns-clause-children g c =
    let name : List ℕ = edit_name g.E.MapEntry.key c.args.edit in
    let child_index : IsChildIndex g.P.Child.kind.first c.args.children.now name c.child_index-at.result = subst (λ k. IsChildIndex g.P.Child.kind.first c.args.children.now k c.child_index-at.result) c.name.ensures c.child_index-at.ensures in
    let front : map arc_value c.extend.new.made.items ≡ map arc_value (take c.child_index-at.result c.args.children.now) = c.in_ok-extend.ensures ∙ ap (λ xs. map arc_value xs ++ map arc_value (take c.child_index-at.result c.args.children.now)) c.in_ok-made.ensures.items in
    let edit = c.in_ok-edit.ensures in
    are_step g.P.Child.kind c.args.children.now c.requires.children c.requires.sorted name c.child_index-at.result child_index c.index-children-at.result c.index-children-at.is (map arc_value edit.0) (map arc_value c.extend-2.new.made.items)
    (spliced c.args.children.now c.extend.new.made.items c.edit.new.made.items c.extend-2.new.made.items edit.0 c.child_index-at.result front edit.1.0 c.in_ok-extend-2.ensures) edit.1.1.1
