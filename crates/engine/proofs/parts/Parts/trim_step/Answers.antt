use Rattle.std.proofs.Common.{◌∙◌, inr, refl, sym, subst, map}
use Rattle.crash_model.specs.Promises.{TrimSays}
use Rattle.crash_model.specs.StepAnswers.{Says}
use Rattle.std.proofs.lemmas.Result.{err_from_is_err_and}
use Rattle.store_model.specs.declared.event.Event.TheVariants as event
use Rattle.engine_invariant.specs.Answers.{reply_to}
use Rattle.engine.specs.Events.{StepAdvances, PartsStep}
use Rattle.engine.proofs.Advancing.{idle_comes_on, refused_comes_on, trim_comes_on}
use Rattle.engine.proofs.Frames.{quiet_by, refused_still, trim_still}
use Rattle.engine.proofs.Sound.{settled_is}
use Rattle.engine.proofs.Journaling.{trim_goes, journal_goes_on, rises_by}
use Rattle.engine.specs.EarlierChanges.{changes_before}
use Rattle.commit_journal.specs.Journals.{choice_of}
use Rattle.engine_invariant.specs.Prefixes.{view_of}
use Rattle.engine.proofs.Idling.{trim_idles}
use Rattle.engine.proofs.parts.Parts.trim_step.Goals as goal

pub returns-clause-continues : goal.returns-clause-continues
returns-clause-continues g c =
    let s = c.args.self.now in
    let call = c.trim_step-come.ensures in
    let goes = trim_goes s.store s.base (changes_before s.earlier) s.journal s.hives.items c.requires.sound.holds c.journal_steps_keep.ensures.trim c.trim_step-come.new.self c.trim_step-come.result c.in_ok-check_not_faulted.ensures.works
    (c.may_trim.ensures.yes c.if-not-may_trim.false) call.faulted call.says in
    subst (λ p. PartsStep g.D.Disk.state_at g.D.Disk.clock g.D.Disk.failures g.D.Disk.faithful event.TrimStep (reply_to c.trim_step-come.result) s p) (sym c.mark_durable.ensures.rest)
    (journal_goes_on g.D.Disk.state_at g.D.Disk.clock g.D.Disk.failures g.D.Disk.faithful event.TrimStep (inr refl) s c.trim_step-come.new.self c.trim_step-come.new.disk c.mark_durable.new.self.store c.mark_durable.new.self.last_changes c.trim_step-come.result c.used-used.result
    c.requires.sound c.in_ok-check_not_faulted.ensures.works goes c.used-used.ensures c.mark_durable.ensures.machine c.mark_durable.ensures.retained (rises_by c.receipts_are_durable.ensures) c.mark_durable.ensures.last_changes call.same call.broken.0 call.on call.call call.failures call.faithful
    (quiet_by event.TrimStep c.trim_step-come.result s.disk c.trim_step-come.new.disk refl (λ e. absurd (subst (λ r. Says TrimSays r (choice_of s.journal) (choice_of c.trim_step-come.new.self)) e call.says))
    (refused_still TrimSays c.trim_step-come.result (choice_of s.journal) (choice_of c.trim_step-come.new.self) s.disk c.trim_step-come.new.disk call.says
    (trim_still c.trim_step-come.result (choice_of s.journal) (choice_of c.trim_step-come.new.self) s.disk c.trim_step-come.new.disk call.says call.no_change))))

pub returns-clause-idle : goal.returns-clause-idle
returns-clause-idle g c = λ free.
    let s = c.args.self.now in
    trim_idles s.store.machine s.base (changes_before s.earlier) (choice_of s.journal) (choice_of c.trim_step-come.new.self) (map view_of s.hives.items) c.trim_step-come.result (c.may_trim.ensures.yes c.if-not-may_trim.false) c.trim_step-come.ensures.says

pub returns-in_err-check_not_faulted-clause-advances : goal.returns-in_err-check_not_faulted-clause-advances
returns-in_err-check_not_faulted-clause-advances g c =
    let told = err_from_is_err_and c.from_residual.result c.from_residual.ensures.1 in
    refused_comes_on event.TrimStep _ _ c.args.self.now c.args.self.now told.1

pub returns-then-not-may_trim-clause-advances : goal.returns-then-not-may_trim-clause-advances
returns-then-not-may_trim-clause-advances g c = idle_comes_on c.args.self.now (c.may_trim.ensures.no c.if-not-may_trim.true)

pub returns-clause-advances : goal.returns-clause-advances
returns-clause-advances g c =
    let s = c.args.self.now in
    let call = c.trim_step-come.ensures in
    let is = c.mark_durable.ensures.machine ∙ settled_is s.store.machine (choice_of s.journal) (choice_of c.trim_step-come.new.self) c.used-used.result c.trim_step-come.result c.used-used.ensures in
    subst (λ p. StepAdvances event.TrimStep (reply_to c.trim_step-come.result) s p) (sym c.mark_durable.ensures.rest)
    (trim_comes_on s c.requires.sound c.in_ok-check_not_faulted.ensures.works c.trim_step-come.new.self c.trim_step-come.new.disk c.mark_durable.new.self.store c.mark_durable.new.self.last_changes c.trim_step-come.result is c.ended_steps_effects.ensures.frees call.ends
    (c.may_trim.ensures.yes c.if-not-may_trim.false) call.says)
