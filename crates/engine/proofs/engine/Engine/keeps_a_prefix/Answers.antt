use Rattle.std.proofs.Common.{refl, subst}
use Rattle.engine.specs.EarlierChanges.{changes_before}
use Rattle.commit_journal.specs.Journals.{store_of}
use Rattle.engine_invariant.specs.Prefixes.{IsSafeAt}
use Rattle.engine.specs.Shown.{Shown}
use Rattle.engine.proofs.engine.Engine.keeps_a_prefix.Goals as goal

pub returns : goal.returns
returns g c =
    let p = c.self.inside.parts in
    subst (λ (s : Shown _). g.D.Disk.faithful s.disk → IsSafeAt s.store (g.D.Disk.state_at s.disk) (g.D.Disk.clock s.disk) s.machine) c.self.view_is
    (λ f. c.crashes_leave_prefixes.ensures.safe (store_of p.journal) p.store.machine p.base (changes_before p.earlier) p.journal p.hives.items (g.D.Disk.state_at p.disk) (g.D.Disk.clock p.disk) c.self.invariant.sound.holds.kept refl c.self.invariant.sound.holds.named c.self.invariant.sound.holds.placed (c.self.invariant.on_disk f))
