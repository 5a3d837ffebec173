use Rattle.std.proofs.Common.{◌≡◌, refl, subst, arith}
use Rattle.commit_journal.specs.Store.{Store}
use Rattle.engine.specs.EarlierChanges.{changes_before}
use Rattle.commit_journal.specs.Journals.{store_of}
use Rattle.engine_invariant.specs.Engines.{EngineAnswers, NeedsNoDevice}
use Rattle.engine_invariant.specs.Prefixes.{IsSafeAt}
use Rattle.store_model.specs.Steps.{Step}
use Rattle.engine.specs.Events.{parts_view}
use Rattle.engine.specs.Shown.{Shown, engine_view}
use Rattle.engine.proofs.Answering.{answered}
use Rattle.engine.proofs.engine.Engine.event.Goals as goal

pub returns-clause-before : goal.returns-clause-before
returns-clause-before g c =
    let p = c.self.inside.parts in
    subst (λ (s : Shown _). g.D.Disk.faithful c.event.new.self.disk → IsSafeAt s.store (g.D.Disk.state_at c.event.new.self.disk) (g.D.Disk.clock s.disk) s.machine) c.self.view_is
    (λ f. c.crashes_leave_prefixes.ensures.past (store_of p.journal) (g.D.Disk.state_at p.disk) (g.D.Disk.state_at c.event.new.self.disk) (g.D.Disk.clock p.disk) c.event.ensures.continues.call.past (g.D.Disk.clock p.disk) p.store.machine (omega arith)
    (c.crashes_leave_prefixes.ensures.safe (store_of p.journal) p.store.machine p.base (changes_before p.earlier) p.journal p.hives.items (g.D.Disk.state_at p.disk) (g.D.Disk.clock p.disk) c.self.invariant.sound.holds.kept refl c.self.invariant.sound.holds.named c.self.invariant.sound.holds.placed (c.self.invariant.on_disk (c.event.ensures.continues.faithful f))))

pub returns-clause-after : goal.returns-clause-after
returns-clause-after g c =
    let p = c.self.inside.parts in
    let n = c.event.new.self in
    subst (λ (s : Shown _). g.D.Disk.faithful n.disk → IsSafeAt s.store (g.D.Disk.state_at n.disk) (g.D.Disk.clock n.disk) n.store.machine) c.self.view_is
    (λ f. subst (λ (s : Store). IsSafeAt s (g.D.Disk.state_at n.disk) (g.D.Disk.clock n.disk) n.store.machine) c.event.ensures.continues.store
    (c.crashes_leave_prefixes.ensures.safe (store_of n.journal) n.store.machine n.base (changes_before n.earlier) n.journal n.hives.items (g.D.Disk.state_at n.disk) (g.D.Disk.clock n.disk) c.event.ensures.continues.sound.holds.kept refl c.event.ensures.continues.sound.holds.named c.event.ensures.continues.sound.holds.placed
    (c.event.ensures.continues.on_disk f (c.self.invariant.on_disk (c.event.ensures.continues.faithful f)))))

pub returns-clause-answers : goal.returns-clause-answers
returns-clause-answers g c =
    let clock = g.D.Disk.clock in
    let failures = g.D.Disk.failures in
    let p = c.self.inside.parts in
    let n = c.event.new.self in
    subst (λ (s : Shown _). EngineAnswers c.args.event c.event.result (engine_view clock failures s) (parts_view clock failures n)) c.self.view_is
    (answered g.D.Disk.state_at clock failures g.D.Disk.faithful c.args.event c.event.result p n c.event.ensures.continues c.event.ensures.advances c.event.ensures.idle)

pub returns-clause-quiet : goal.returns-clause-quiet
returns-clause-quiet g c = subst (λ (s : Shown _). NeedsNoDevice c.args.event c.event.result → c.event.new.self.disk ≡ s.disk) c.self.view_is c.event.ensures.continues.quiet

pub returns-clause-step : goal.returns-clause-step
returns-clause-step g c = subst (λ (s : Shown _). Step s.machine c.args.event c.event.result c.event.new.self.store.machine) c.self.view_is c.event.ensures.continues.step

pub returns-clause-outcomes : goal.returns-clause-outcomes
returns-clause-outcomes g c = λ has before had up. c.outcomes_are_kept.ensures.now c.event.new.self.store.machine before c.event.ensures.continues.sound.holds.kept.kept has had up
