use Rattle.commit_journal.specs.Numbered.{changes_in}
use Rattle.std.proofs.Common.{◌∙◌, ◌-◌, List, length, drop, ap, sym, arith}
use Rattle.std.proofs.lemmas.List.{length-drop, take_all}
use Rattle.reg_tree.specs.declared.element.Element.{Element}
use Rattle.recovery.proofs.NumberedChanges.{above_is, changes_in-zip}
use Rattle.recovery.proofs.retained_changes.RetainedChanges.above.Goals as goal

pub returns : goal.returns
returns c = λ up.
    let s = c.args.self.now in
    let k = c.place_above-place.result in
    take_all (length c.deref.result.now - k) (drop k c.deref.result.now) (omega (arith, length-drop k c.deref.result.now)) ∙ ap (λ (l : List Element). drop k l) c.deref.ensures.value
    ∙ sym (changes_in-zip k s.numbers.items s.changes.items s.many) ∙ ap changes_in (sym (above_is c.args.number s.numbers.items s.changes.items k s.many c.place_above-place.ensures.bound (c.place_above-place.ensures.place up)))
