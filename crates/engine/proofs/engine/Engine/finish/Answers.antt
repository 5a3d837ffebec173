use Rattle.std.proofs.Common.{◌∙◌, Option, ap, refl, subst, sym}
use Rattle.std.specs.Prelude.{IfSome}
use Rattle.std.specs.Option.{option_map}
use Rattle.store_model.specs.Steps.{Step}
use Rattle.transactions.specs.declared.prepared.Prepared.{Prepared}
use Rattle.commit_journal.specs.Store.{Store}
use Rattle.engine.specs.EarlierChanges.{changes_before}
use Rattle.commit_journal.specs.Journals.{store_of}
use Rattle.engine_invariant.specs.Prefixes.{AreOnDisk, IsSafeAt}
use Rattle.engine.specs.Shown.{Shown, awaiting_of}
use Rattle.engine.specs.declared.parts.Parts.{Parts}
use Rattle.engine.proofs.engine.Engine.finish.Goals as goal

pub returns-clause-before : goal.returns-clause-before
returns-clause-before g c =
    let p = c.self.inside.parts in
    let n = c.finish.new.self in
    subst (λ (s : Shown _). g.D.Disk.faithful n.disk → IsSafeAt s.store (g.D.Disk.state_at n.disk) (g.D.Disk.clock s.disk) s.machine) c.self.view_is
    (subst (λ (q : Parts _). g.D.Disk.faithful q.disk → IsSafeAt (store_of p.journal) (g.D.Disk.state_at q.disk) (g.D.Disk.clock p.disk) p.store.machine) (sym c.finish.ensures.rest)
    (λ f. c.crashes_leave_prefixes.ensures.safe (store_of p.journal) p.store.machine p.base (changes_before p.earlier) p.journal p.hives.items (g.D.Disk.state_at p.disk) (g.D.Disk.clock p.disk) c.self.invariant.sound.holds.kept refl c.self.invariant.sound.holds.named c.self.invariant.sound.holds.placed (c.self.invariant.on_disk f)))

pub returns-clause-after : goal.returns-clause-after
returns-clause-after g c =
    let p = c.self.inside.parts in
    let n = c.finish.new.self in
    let rest = c.finish.ensures.rest in
    let on_disk = subst (λ (q : Parts _). g.D.Disk.faithful q.disk → AreOnDisk q.journal q.hives.items (g.D.Disk.state_at q.disk (g.D.Disk.clock q.disk))) (sym rest) c.self.invariant.on_disk in
    subst (λ (s : Shown _). g.D.Disk.faithful n.disk → IsSafeAt s.store (g.D.Disk.state_at n.disk) (g.D.Disk.clock n.disk) n.store.machine) c.self.view_is
    (λ f. subst (λ (s : Store). IsSafeAt s (g.D.Disk.state_at n.disk) (g.D.Disk.clock n.disk) n.store.machine) (ap (λ (q : Parts _). store_of q.journal) rest)
    (c.crashes_leave_prefixes.ensures.safe (store_of n.journal) n.store.machine n.base (changes_before n.earlier) n.journal n.hives.items (g.D.Disk.state_at n.disk) (g.D.Disk.clock n.disk) c.finish.ensures.sound.holds.kept refl c.finish.ensures.sound.holds.named c.finish.ensures.sound.holds.placed (on_disk f)))

pub returns-clause-outcomes : goal.returns-clause-outcomes
returns-clause-outcomes g c = λ has before had up. c.outcomes_are_kept.ensures.now c.finish.new.self.store.machine before c.finish.ensures.sound.holds.kept.kept has had up

pub returns-clause-step : goal.returns-clause-step
returns-clause-step g c =
    let n = c.finish.new.self in
    subst (λ (s : Shown _). IfSome s.prepared (λ awaiting. Step s.machine awaiting.event c.finish.result n.store.machine)) c.self.view_is
    (subst (λ (o : Option Prepared). IfSome (option_map awaiting_of o) (λ awaiting. Step c.self.inside.parts.store.machine awaiting.event c.finish.result n.store.machine)) (sym (sym c.take.ensures.value ∙ c.in-Some.is)) c.finish.ensures.step)
