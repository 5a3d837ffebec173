use Rattle.std.proofs.Common.{◌∙◌, inl, inr, arith, length, refl, subst, sym}
use Rattle.std.proofs.lemmas.List.{length-map}
use Rattle.disk_model.specs.Crash.{LeavesHonest}
use Rattle.engine.specs.EarlierChanges.{changes_before}
use Rattle.commit_journal.specs.Journals.{store_of}
use Rattle.engine_invariant.specs.Prefixes.{IsPrefix, IsPrimaryOf, Recover, view_of}
use Rattle.engine_invariant.specs.Progress.{HasPending}
use Rattle.engine_invariant.proofs.HiveLists.{view_at}
use Rattle.store_model.specs.Machine.{last_number, trees_now}
use Rattle.recovery.specs.Recovered.{seen_in}
use Rattle.engine.specs.Shown.{Shown}
use Rattle.engine.specs.Work.{IsReadable}
use Rattle.engine.proofs.Reading.{reads_honest}
use Rattle.engine.proofs.engine.Engine.reads_a_prefix.Goals as goal

pub returns-clause-honest : goal.returns-clause-honest
returns-clause-honest g c =
    let p = c.self.inside.parts in
    let m = p.store.machine in
    let state = g.D.Disk.state_at p.disk (g.D.Disk.clock p.disk) in
    let holds = c.self.invariant.sound.holds in
    subst (λ (s : Shown _). g.D.Disk.faithful s.disk → IsReadable s.machine s.hives → LeavesHonest (IsPrimaryOf (length s.machine.opened)) (g.D.Disk.state_at s.disk (g.D.Disk.clock s.disk)) (seen_in (g.D.Disk.state_at s.disk (g.D.Disk.clock s.disk)))) c.self.view_is
    (λ f may. subst (λ n. LeavesHonest (IsPrimaryOf n) state (seen_in state)) (sym (length-map p.hives.items view_of) ∙ holds.kept.all)
    (reads_honest c.reads_are_honest.ensures state p.journal p.hives.items (λ file. g.met.D.Disk.sound p.disk (g.D.Disk.clock p.disk) file f (omega arith)) (c.self.invariant.on_disk f) holds.whole
    (λ i hive is. elim (may) [ inl works ↦ inl (holds.hives_work works i hive is) | inr rests ↦ inr (rests i (view_of hive) (view_at p.hives.items i hive is)) ])))

pub returns-clause-prefix : goal.returns-clause-prefix
returns-clause-prefix g c =
    let p = c.self.inside.parts in
    let m = p.store.machine in
    let state = g.D.Disk.state_at p.disk (g.D.Disk.clock p.disk) in
    let holds = c.self.invariant.sound.holds in
    subst (λ (s : Shown _). g.D.Disk.faithful s.disk → IsReadable s.machine s.hives → IsPrefix s.store s.machine (seen_in (g.D.Disk.state_at s.disk (g.D.Disk.clock s.disk)))) c.self.view_is
    (λ f may. c.crashes_leave_prefixes.ensures.safe (store_of p.journal) m p.base (changes_before p.earlier) p.journal p.hives.items (g.D.Disk.state_at p.disk) (g.D.Disk.clock p.disk) holds.kept refl holds.named holds.placed (c.self.invariant.on_disk f) (seen_in state)
    (subst (λ n. LeavesHonest (IsPrimaryOf n) state (seen_in state)) (sym (length-map p.hives.items view_of) ∙ holds.kept.all)
    (reads_honest c.reads_are_honest.ensures state p.journal p.hives.items (λ file. g.met.D.Disk.sound p.disk (g.D.Disk.clock p.disk) file f (omega arith)) (c.self.invariant.on_disk f) holds.whole
    (λ i hive is. elim (may) [ inl works ↦ inl (holds.hives_work works i hive is) | inr rests ↦ inr (rests i (view_of hive) (view_at p.hives.items i hive is)) ]))))

pub returns-clause-quiet : goal.returns-clause-quiet
returns-clause-quiet g c =
    let p = c.self.inside.parts in
    let m = p.store.machine in
    let state = g.D.Disk.state_at p.disk (g.D.Disk.clock p.disk) in
    let holds = c.self.invariant.sound.holds in
    subst (λ (s : Shown _). g.D.Disk.faithful s.disk → IsReadable s.machine s.hives → ¬ (HasPending s.machine) → Recover s.store (length s.machine.opened) (seen_in (g.D.Disk.state_at s.disk (g.D.Disk.clock s.disk))) (last_number s.machine) (trees_now s.machine)) c.self.view_is
    (λ f may none. c.quiet_ends_recover.ensures.read (store_of p.journal) m (seen_in state)
    (c.crashes_leave_prefixes.ensures.safe (store_of p.journal) m p.base (changes_before p.earlier) p.journal p.hives.items (g.D.Disk.state_at p.disk) (g.D.Disk.clock p.disk) holds.kept refl holds.named holds.placed (c.self.invariant.on_disk f) (seen_in state)
    (subst (λ n. LeavesHonest (IsPrimaryOf n) state (seen_in state)) (sym (length-map p.hives.items view_of) ∙ holds.kept.all)
    (reads_honest c.reads_are_honest.ensures state p.journal p.hives.items (λ file. g.met.D.Disk.sound p.disk (g.D.Disk.clock p.disk) file f (omega arith)) (c.self.invariant.on_disk f) holds.whole
    (λ i hive is. elim (may) [ inl works ↦ inl (holds.hives_work works i hive is) | inr rests ↦ inr (rests i (view_of hive) (view_at p.hives.items i hive is)) ]))))
    none)
