use Rattle.std.proofs.Common.{◌∙◌, ◌-◌, arith, ap, length, Ok, List}
use Rattle.std.proofs.lemmas.List.{length-drop, length-take}
use Rattle.reg_tree.specs.declared.element.Element.{Element}
use Rattle.store_model.specs.Machine.{Machine}
use Rattle.commit_journal.specs.Journals.{choice_of}
use Rattle.disk_model.specs.declared.progress.Progress.{Progress}
use Rattle.engine.proofs.Journaling.{top_same}
use Rattle.engine.proofs.parts.Parts.mark_durable.Goals as goal

pub slice_bounds-settled-end : goal.slice_bounds-settled-end
slice_bounds-settled-end g c =
    let s = c.args.self.now in
    let free = c.free.new.self.machine in
    let done = rw c.in-Ok-Done.is at c.in-Ok-Done.field-0-is in
    let known = c.requires.known (c.in-Ok-Done.is ∙ ap (λ (p : Progress). Ok p) done) in
    let last = top_same s.store.machine.durable (choice_of s.journal).now (omega (arith, c.if-last-gt0.true, c.last_number-last.ensures)) in
    omega (
      arith,
      known,
      last,
      c.last_number-last.ensures,
      c.durable-durable.ensures.durable,
      c.requires.opened,
      ap (λ (m : Machine). m.durable) c.free.ensures.machine,
      ap (λ (m : Machine). m.before) c.free.ensures.machine,
      ap (λ (m : Machine). length m.accepted) c.free.ensures.machine,
      c.saturating_sub-count.ensures,
      ap (λ (l : List Element). length l) c.above.ensures.changes,
      length-drop (c.durable-durable.result - free.before) free.accepted,
      length-take c.saturating_sub-count.result c.above.result.now,
    )
