use Rattle.std.proofs.Common.{sym, subst, map}
use Rattle.store_model.specs.declared.event.Event.{Event}
use Rattle.engine.specs.EarlierChanges.{changes_before}
use Rattle.commit_journal.specs.Journals.{choice_of}
use Rattle.engine_invariant.specs.Idle.{IdlesExactly}
use Rattle.engine_invariant.specs.Prefixes.{view_of}
use Rattle.engine.proofs.Idling.{replied_idle}
use Rattle.engine.proofs.parts.Parts.event.Goals as goal

pub returns-in-FlusherStep-clause-idle : goal.returns-in-FlusherStep-clause-idle
returns-in-FlusherStep-clause-idle g c = λ free.
    let s = c.args.self.now in
    subst (λ (e : Event). IdlesExactly e c.reply_of_step-in-FlusherStep.result s.store.machine s.base (changes_before s.earlier) (choice_of s.journal) (map view_of s.hives.items)) (sym c.in-FlusherStep.is)
    (replied_idle c.flusher_step.result c.reply_of_step-in-FlusherStep.result c.reply_of_step-in-FlusherStep.ensures (c.flusher_step.ensures.idle free))

pub returns-in-JournalStep-clause-idle : goal.returns-in-JournalStep-clause-idle
returns-in-JournalStep-clause-idle g c = λ free.
    let s = c.args.self.now in
    subst (λ (e : Event). IdlesExactly e c.reply_of_step.result s.store.machine s.base (changes_before s.earlier) (choice_of s.journal) (map view_of s.hives.items)) (sym c.in-JournalStep.is)
    (replied_idle c.journal_step.result c.reply_of_step.result c.reply_of_step.ensures (c.journal_step.ensures.idle free))
