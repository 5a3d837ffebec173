use Rattle.std.proofs.Common.{◌≡◌, length, subst, arith}
use Rattle.std.specs.Prelude.{false}
use Rattle.disk_model.specs.Crash.{LeavesHonest}
use Rattle.engine_invariant.specs.Prefixes.{IsPrimaryOf}
use Rattle.engine_invariant.proofs.StoreReads.{reads_left}
use Rattle.recovery.specs.Recovered.{seen_in}
use Rattle.recovery.specs.Shown.{Shown}
use Rattle.recovery.specs.Shown as shown
use Rattle.commit_journal.specs.Store.{all_hives}
use Rattle.recovery.proofs.Crashes.{found_long, no_call}
use Rattle.recovery.proofs.opened.Opened.keeps_what_was_found.Goals as goal

pub returns-clause-many : goal.returns-clause-many
returns-clause-many g c = subst (λ (v : Shown _). length v.found.trees ≡ all_hives (shown.store_of v)) c.self.view_is (found_long c.self.inside.found c.self.invariant.kept)

pub returns-clause-crash : goal.returns-clause-crash
returns-clause-crash g c = no_call g.D.Disk.state_at g.D.Disk.clock g.D.Disk.faithful c.openings_begin.ensures c.crashes_leave_prefixes.ensures.safe _ _ c.self.view_is c.self.invariant.kept c.self.invariant.on_disk

pub returns-clause-read : goal.returns-clause-read
returns-clause-read g c =
    let D = g.D.Disk in
    let inside = c.self.inside in
    let state = D.state_at inside.disk (D.clock inside.disk) in
    let hives = inside.found.hives.items in
    subst (λ (v : Shown _). D.faithful v.disk → v.failed ≡ false → LeavesHonest (IsPrimaryOf (all_hives (shown.store_of v))) (D.state_at v.disk (D.clock v.disk)) (seen_in (D.state_at v.disk (D.clock v.disk)))) c.self.view_is
    (λ f works. subst (λ n. LeavesHonest (IsPrimaryOf n) state (seen_in state)) c.self.invariant.kept.many
    (reads_left state hives (λ file. g.met.D.Disk.sound inside.disk (D.clock inside.disk) file f (omega arith))
    (λ i hive is. c.reads_are_honest.ensures hive _ _ (g.met.D.Disk.sound inside.disk (D.clock inside.disk) _ f (omega arith)) (c.self.invariant.works works i hive is) ((c.self.invariant.on_disk f).each i hive is))))
