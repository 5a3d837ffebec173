use Rattle.std.proofs.Common.{◌∙◌, ◌++◌, ◌∷◌, [], ℕ, List, ap, arith, length, length-append}
use Rattle.std.specs.List.{zip}
use Rattle.reg_tree.specs.declared.element.Element.{Element}
use Rattle.recovery.proofs.NumberedChanges.{zip-push}
use Rattle.recovery.proofs.retained_changes.RetainedChanges.push_reserved.Goals as goal

pub returns-clause-changes : goal.returns-clause-changes
returns-clause-changes c =
    let s = c.args.self.now in
    ap (λ (ns : List ℕ). zip ns c.push_reserved-2.new.self.items) c.push_reserved.ensures.items
    ∙ ap (λ (cs : List Element). zip (s.numbers.items ++ c.args.number ∷ []) cs) c.push_reserved-2.ensures.items
    ∙ zip-push s.numbers.items s.changes.items c.args.number c.args.change s.many

pub returns-clause-room : goal.returns-clause-room
returns-clause-room c =
    let s = c.args.self.now in
    λ more room. (
      omega (arith, room.0, c.push_reserved.ensures.capacity, ap (λ (ns : List ℕ). length ns) c.push_reserved.ensures.items, length-append s.numbers.items (c.args.number ∷ [])),
      omega (arith, room.1, c.push_reserved-2.ensures.capacity, ap (λ (cs : List Element). length cs) c.push_reserved-2.ensures.items, length-append s.changes.items (c.args.change ∷ [])),
    )
