use Rattle.std.proofs.Common.{◌∙◌, ℕ, List, drop, ap, sym}
use Rattle.std.specs.List.{zip}
use Rattle.reg_tree.specs.declared.element.Element.{Element}
use Rattle.recovery.proofs.NumberedChanges.{above_is, zip-drop}
use Rattle.recovery.proofs.retained_changes.RetainedChanges.discard_to.Goals as goal

pub returns : goal.returns
returns c = λ up.
    let s = c.args.self.now in
    let k = c.place_above-place.result in
    ap (λ (ns : List ℕ). zip ns c.discard_first-2.new.items.items) c.discard_first.ensures ∙ ap (λ (cs : List Element). zip (drop k s.numbers.items) cs) c.discard_first-2.ensures
    ∙ zip-drop k s.numbers.items s.changes.items s.many ∙ sym (above_is c.args.number s.numbers.items s.changes.items k s.many c.place_above-place.ensures.bound (c.place_above-place.ensures.place up))
