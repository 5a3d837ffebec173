use Rattle.std.proofs.Common.{ap, arith, refl, sym, Ok}
use Rattle.std.proofs.lemmas.Result.{err_from_is_err_and}
use Rattle.store_model.specs.declared.event.Event.TheVariants as event
use Rattle.disk_model.specs.declared.progress.Progress.TheVariants as progress
use Rattle.engine_invariant.specs.Answers.{reply_to}
use Rattle.engine_invariant.proofs.HiveLists.{at_slot}
use Rattle.engine.specs.EarlierChanges.{changes_before}
use Rattle.engine.proofs.Advancing.{flush_comes_on, from_rest, refused_comes_on}
use Rattle.engine.proofs.Sound.{at_place}
use Rattle.engine.proofs.Frames.{behind, hungry}
use Rattle.engine.proofs.Idling.{not_ok, rests_on, goes_from}
use Rattle.engine.proofs.parts.Parts.begin_flush.Goals as goal

pub returns-clause-continues : goal.returns-clause-continues
returns-clause-continues g c = behind g.D.Disk.state_at g.D.Disk.clock g.D.Disk.failures g.D.Disk.faithful (event.FlusherStep c.args.place) (reply_to c.flush.result) c.args.self.now c.absorb.new.self c.flush.new.self
    c.absorb.ensures.rest c.absorb.ensures.on_disk (λ i no. c.absorb.ensures.others i (λ e. no (ap event.FlusherStep (sym e)))) c.flush.ensures.continues

pub returns-in_err-absorb-clause-continues : goal.returns-in_err-absorb-clause-continues
returns-in_err-absorb-clause-continues g c =
    let told = err_from_is_err_and c.from_residual.result c.from_residual.ensures.1 in
    rw (told.1, told.2) (behind g.D.Disk.state_at g.D.Disk.clock g.D.Disk.failures g.D.Disk.faithful (event.FlusherStep c.args.place) _ c.args.self.now c.absorb.new.self c.absorb.new.self
    c.absorb.ensures.rest c.absorb.ensures.on_disk (λ i no. c.absorb.ensures.others i (λ e. no (ap event.FlusherStep (sym e))))
    (hungry g.D.Disk.state_at g.D.Disk.clock g.D.Disk.failures g.D.Disk.faithful c.args.place c.absorb.new.self _ c.absorb.ensures.sound c.in_err-absorb.ensures.refused))

pub returns-then-applied-index-clause-idle : goal.returns-then-applied-index-clause-idle
returns-then-applied-index-clause-idle g c = λ hive is.
    let s = c.args.self.now in
    let h = c.requires.sound in (
      λ e. rests_on s.store.machine s.base (changes_before s.earlier) s.last_changes.last.items h.last_changes s.hives.items c.args.place c.index-2.result.now c.applied.result c.index.result.now hive (at_place s.hives.items c.args.place c.index.result.now c.requires.there c.index.ensures) is
          (at_place s.last_changes.last.items c.args.place c.index-2.result.now (omega (arith, c.requires.there, h.named)) c.index-2.ensures) c.applied.ensures c.if-applied-index.true,
      λ has. refl,
    )

pub returns-in_err-absorb-clause-idle : goal.returns-in_err-absorb-clause-idle
returns-in_err-absorb-clause-idle g c = λ hive is.
    let s = c.args.self.now in
    let h = c.requires.sound in
    let told = err_from_is_err_and c.from_residual.result c.from_residual.ensures.1 in (
      λ e. absurd (not_ok _ _ told.1 e),
      λ has. goes_from s.store.machine s.base (changes_before s.earlier) s.last_changes.last.items h.last_changes s.hives.items c.args.place c.index-2.result.now c.applied.result c.index.result.now hive (at_place s.hives.items c.args.place c.index.result.now c.requires.there c.index.ensures) is
          (at_place s.last_changes.last.items c.args.place c.index-2.result.now (omega (arith, c.requires.there, h.named)) c.index-2.ensures) c.applied.ensures c.if-applied-index.false has,
    )

pub returns-clause-idle : goal.returns-clause-idle
returns-clause-idle g c = λ hive is.
    let s = c.args.self.now in
    let h = c.requires.sound in (
      λ e. absurd (c.flush.ensures.not_idle e),
      λ has. goes_from s.store.machine s.base (changes_before s.earlier) s.last_changes.last.items h.last_changes s.hives.items c.args.place c.index-2.result.now c.applied.result c.index.result.now hive (at_place s.hives.items c.args.place c.index.result.now c.requires.there c.index.ensures) is
          (at_place s.last_changes.last.items c.args.place c.index-2.result.now (omega (arith, c.requires.there, h.named)) c.index-2.ensures) c.applied.ensures c.if-applied-index.false has,
    )

pub returns-then-applied-index-clause-advances : goal.returns-then-applied-index-clause-advances
returns-then-applied-index-clause-advances g c = flush_comes_on c.args.place (reply_to (Ok progress.Idle)) c.args.self.now c.args.self.now (λ was then made not_idle at there. absurd (not_idle refl))

pub returns-in_err-absorb-clause-advances : goal.returns-in_err-absorb-clause-advances
returns-in_err-absorb-clause-advances g c =
    let told = err_from_is_err_and c.from_residual.result c.from_residual.ensures.1 in
    refused_comes_on (event.FlusherStep c.args.place) _ _ c.args.self.now c.absorb.new.self told.1

pub returns-clause-advances : goal.returns-clause-advances
returns-clause-advances g c =
    let s = c.args.self.now in
    let mid = c.absorb.new.self in
    flush_comes_on c.args.place (reply_to c.flush.result) s c.flush.new.self (λ was then made not_idle at there.
    let taken_at = at_slot mid.hives.items c.args.place (omega (arith, c.requires.there, c.absorb.ensures.many)) in
    let taken = c.in_ok-absorb.ensures.taken was taken_at.0 at taken_at.1 in
    from_rest s.store.machine.durable (reply_to c.flush.result) was taken_at.0 then (c.requires.rest was at) taken.0 taken.1
    (c.flush.ensures.flushes taken_at.0 then taken_at.1 there made))
