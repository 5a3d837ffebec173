use Rattle.std.proofs.Common.{◌+◌, ◌-◌, ◌∙◌, inl, inr, ap, arith, length, refl, sym, subst}
use Rattle.std.proofs.lemmas.List.{length-drop}
use Rattle.std.proofs.lemmas.Result.{err_from_is_err_and}
use Rattle.crash_model.specs.Promises.{JournalSays}
use Rattle.change_codec.specs.ModelChanges.{timed_elements}
use Rattle.store_model.specs.declared.event.Event.TheVariants as event
use Rattle.engine_invariant.specs.Answers.{reply_to, after_step}
use Rattle.engine.specs.Events.{StepAdvances, PartsStep}
use Rattle.engine.proofs.Advancing.{journal_comes_on, nearer_where, refused_comes_on}
use Rattle.engine.proofs.Frames.{quiet_by, refused_still}
use Rattle.engine.proofs.Sound.{settled_is}
use Rattle.engine.proofs.Journaling.{may_hand, batch_goes, journal_goes_on, rises_by}
use Rattle.engine.specs.EarlierChanges.{changes_before}
use Rattle.commit_journal.specs.Journals.{choice_of}
use Rattle.engine.proofs.Idling.{journal_idles}
use Rattle.engine.proofs.parts.Parts.journal_step.Goals as goal

pub step-come-requires : goal.step-come-requires
step-come-requires g c =
    let s = c.args.self.now in
    record {
      handed = λ idle. may_hand s.store s.base (changes_before s.earlier) s.journal s.hives.items c.requires.sound.holds c.durable-durable.result c.above-pending.result.now c.durable-durable.ensures.durable c.above-pending.ensures.changes
          c.pending_may_be_handed.ensures c.above-pending.ensures.short;
    }

pub returns-clause-continues : goal.returns-clause-continues
returns-clause-continues g c =
    let s = c.args.self.now in
    let call = c.step-come.ensures in
    let goes = batch_goes s.store s.base (changes_before s.earlier) s.journal s.hives.items c.requires.sound.holds c.durable-durable.result c.above-pending.result.now c.durable-durable.ensures.durable c.above-pending.ensures.changes
    c.journal_steps_keep.ensures.batch c.step-come.new.self c.step-come.result c.in_ok-check_not_faulted.ensures.works call.faulted call.says in
    subst (λ p. PartsStep g.D.Disk.state_at g.D.Disk.clock g.D.Disk.failures g.D.Disk.faithful event.JournalStep (reply_to c.step-come.result) s p) (sym c.mark_durable.ensures.rest)
    (journal_goes_on g.D.Disk.state_at g.D.Disk.clock g.D.Disk.failures g.D.Disk.faithful event.JournalStep (inl refl) s c.step-come.new.self c.step-come.new.disk c.mark_durable.new.self.store c.mark_durable.new.self.last_changes c.step-come.result c.used-used.result
    c.requires.sound c.in_ok-check_not_faulted.ensures.works goes c.used-used.ensures c.mark_durable.ensures.machine c.mark_durable.ensures.retained (rises_by c.receipts_are_durable.ensures) c.mark_durable.ensures.last_changes call.same call.broken.0 call.on call.call call.failures call.faithful
    (quiet_by event.JournalStep c.step-come.result s.disk c.step-come.new.disk refl (λ e. call.no_change (inr (inr e))) (refused_still (JournalSays (c.durable-durable.result + 1) (timed_elements c.above-pending.result.now)) c.step-come.result (choice_of s.journal) (choice_of c.step-come.new.self) s.disk c.step-come.new.disk call.says call.no_change)))

pub returns-clause-idle : goal.returns-clause-idle
returns-clause-idle g c = λ free.
    let s = c.args.self.now in
    journal_idles s.store.machine (choice_of s.journal) (choice_of c.step-come.new.self) c.durable-durable.result (c.durable-durable.result + 1) c.above-pending.result.now c.step-come.result c.requires.sound.holds.kept.kept
    c.durable-durable.ensures.durable c.above-pending.ensures.changes c.step-come.ensures.says c.step-come.ensures.idle

pub returns-in_err-check_not_faulted-clause-advances : goal.returns-in_err-check_not_faulted-clause-advances
returns-in_err-check_not_faulted-clause-advances g c =
    let told = err_from_is_err_and c.from_residual.result c.from_residual.ensures.1 in
    refused_comes_on event.JournalStep _ _ c.args.self.now c.args.self.now told.1

pub returns-clause-advances : goal.returns-clause-advances
returns-clause-advances g c =
    let s = c.args.self.now in
    let m = s.store.machine in
    let call = c.step-come.ensures in
    let free = c.in_ok-check_not_faulted.ensures.works in
    let goes = batch_goes s.store s.base (changes_before s.earlier) s.journal s.hives.items c.requires.sound.holds c.durable-durable.result c.above-pending.result.now c.durable-durable.ensures.durable c.above-pending.ensures.changes
    c.journal_steps_keep.ensures.batch c.step-come.new.self c.step-come.result free call.faulted call.says in
    let is = c.mark_durable.ensures.machine ∙ settled_is m (choice_of s.journal) (choice_of c.step-come.new.self) c.used-used.result c.step-come.result c.used-used.ensures in
    subst (λ p. StepAdvances event.JournalStep (reply_to c.step-come.result) s p) (sym c.mark_durable.ensures.rest)
    (journal_comes_on s c.requires.sound free c.step-come.new.self c.step-come.new.disk c.mark_durable.new.self.store c.mark_durable.new.self.last_changes c.step-come.result is c.ended_steps_effects.ensures.frees call.ends
    c.ended_steps_effects.ensures.settles (c.durable-durable.result + 1) (timed_elements c.above-pending.result.now) call.says
    (λ some. nearer_where _ _ c.step-come.result (length c.above-pending.result.now) call.nearer
    (omega (arith, some, c.requires.sound.holds.kept.kept.within.opened, c.durable-durable.ensures.durable, ap length c.above-pending.ensures.changes, length-drop (c.durable-durable.result - m.before) m.accepted)))
    (rises_by c.receipts_are_durable.ensures m (after_step m (choice_of s.journal) (choice_of c.step-come.new.self) c.step-come.result) event.JournalStep (reply_to c.step-come.result) c.requires.sound.holds.kept.kept goes.0))
