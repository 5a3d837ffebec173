use Rattle.std.proofs.Common.{◌≡◌, ◌↔◌, ◌∙◌, ap, sym, map, subst, arith, refl, slice_get, Some, Ok, Err}
use Rattle.std.proofs.lemmas.Result.{err_from_is_err_and}
use Rattle.std.proofs.lemmas.Bool.{true≢false}
use Rattle.disk_model.specs.declared.progress.Progress.TheVariants as progress
use Rattle.engine_invariant.specs.Idle.{HiveIsFlushed}
use Rattle.engine_invariant.specs.Prefixes.{view_of}
use Rattle.engine_invariant.specs.Answers.{reply_to}
use Rattle.store_model.specs.declared.event.Event.TheVariants as event
use Rattle.refusals.specs.declared.refusal.Refusal.TheVariants.{NotFound}
use Rattle.hive_flush.specs.HiveStates.{file_choice, memory_of}
use Rattle.hive_flush.specs.declared.hive.HiveFile.{HiveFile}
use Rattle.engine.specs.EarlierChanges.{changes_before}
use Rattle.engine.specs.Events.{StepAdvances}
use Rattle.engine.proofs.Advancing.{flush_comes_on, from_busy, refused_comes_on}
use Rattle.engine.proofs.Sound.{at_place, same_hive}
use Rattle.engine.proofs.Idling.{flush_idles, flush_goes_on}
use Rattle.engine.proofs.parts.Parts.flusher_step.Goals as goal

pub returns-then-is_at_rest-clause-idle : goal.returns-then-is_at_rest-clause-idle
returns-then-is_at_rest-clause-idle g c = λ free.
    let s = c.args.self.now in
    let there = at_place s.hives.items c.from-place.result c.index.result.now (omega (arith, c.if-place-len.false, c.len.ensures)) c.index.ensures in
    subst (λ n. (c.begin_flush.result ≡ Ok progress.Idle) ↔ HiveIsFlushed s.store.machine s.base (changes_before s.earlier) (map view_of s.hives.items) n) c.from-place.ensures
    (flush_idles s.store.machine s.base (changes_before s.earlier) s.last_changes.last.items c.requires.sound.last_changes s.hives.items c.from-place.result c.index.result.now there (c.if-is_at_rest.ensures.rest refl) (c.begin_flush.ensures.idle c.index.result.now there))

pub returns-clause-idle : goal.returns-clause-idle
returns-clause-idle g c = λ free.
    let s = c.args.self.now in
    let there = subst (λ n. slice_get s.hives.items n ≡ Some c.index.result.now) c.from-place.ensures (at_place s.hives.items c.from-place.result c.index.result.now (omega (arith, c.if-place-len.false, c.len.ensures)) c.index.ensures) in
    flush_goes_on s.store.machine s.base (changes_before s.earlier) s.hives.items c.args.hive c.index.result.now there
    (λ rests. true≢false (sym (c.is_at_rest.ensures.not_idle (c.requires.sound.holds.whole c.args.hive c.index.result.now there) rests) ∙ c.if-is_at_rest.false)) c.flush.ensures.not_idle

pub returns-in_err-check_not_faulted-clause-advances : goal.returns-in_err-check_not_faulted-clause-advances
returns-in_err-check_not_faulted-clause-advances g c =
    let told = err_from_is_err_and c.from_residual.result c.from_residual.ensures.1 in
    refused_comes_on (event.FlusherStep c.args.hive) _ _ c.args.self.now c.args.self.now told.1

pub returns-then-place-len-clause-advances : goal.returns-then-place-len-clause-advances
returns-then-place-len-clause-advances g c = refused_comes_on (event.FlusherStep c.args.hive) (Err NotFound) NotFound c.args.self.now c.args.self.now refl

pub returns-then-is_at_rest-clause-advances : goal.returns-then-is_at_rest-clause-advances
returns-then-is_at_rest-clause-advances g c =
    subst (λ n. StepAdvances (event.FlusherStep n) (reply_to c.begin_flush.result) c.args.self.now c.begin_flush.new.self) c.from-place.ensures c.begin_flush.ensures.advances

pub returns-clause-advances : goal.returns-clause-advances
returns-clause-advances g c =
    let s = c.args.self.now in
    let place = c.from-place.result in
    subst (λ n. StepAdvances (event.FlusherStep n) (reply_to c.flush.result) s c.flush.new.self) c.from-place.ensures
    (flush_comes_on place (reply_to c.flush.result) s c.flush.new.self (λ was then made not_idle at there.
    let there_at = at_place s.hives.items place c.index.result.now (omega (arith, c.if-place-len.false, c.len.ensures)) c.index.ensures in
    let same = same_hive s.hives.items place c.index.result.now was there_at at in
    from_busy s.store.machine.durable (memory_of was).1 (reply_to c.flush.result) was then
    (λ rests. true≢false (sym (c.is_at_rest.ensures.not_idle (c.requires.sound.holds.whole place c.index.result.now there_at) (ap (λ (h : HiveFile). (file_choice h).next) same ∙ rests)) ∙ c.if-is_at_rest.false))
    (c.flush.ensures.flushes was then at there made)))
