-- One line for each device call, at each exit: what it does, and that whatever a crash has left since the beginning is
-- still right.
use Rattle.std.proofs.Common.{refl, ◌∙◌, arith}
use Rattle.disk_model.specs.Crash.{LeavesAll}
use Rattle.disk_model.proofs.Crashes.{begins, goes_on}
use Rattle.disk_model.proofs.Leaves.{any_write, left_of_sync}
use Rattle.gated_log.specs.GatedLog.{IsBeforeOrAfter}
use Rattle.gated_log.proofs.LogSteps.{at_start, behind, is_staged, opened, is_added, has_one_more, is_other}
use Rattle.std.proofs.lemmas.Result.{on_ok_weaker}
use Rattle.gated_log.proofs.entries.append.Goals as goal

pub returns-in_err-write_at-clause-any_moment : goal.returns-in_err-write_at-clause-any_moment
returns-in_err-write_at-clause-any_moment g c =
    λ faithful.
    let s = g.D.Disk.state_at in
    let t = g.D.Disk.clock in
    let d = c.args.disk.now in
    let always = goes_on LeavesAll in
    let start = begins LeavesAll (s d) (t d) (IsBeforeOrAfter (s d (t d)) c.args.byte) (at_start (s d (t d)) c.args.count c.args.byte c.requires.settled) in
    let wrote = any_write c.write_at.result _ _ _ _ faithful c.write_at.ensures.written c.write_at.ensures.failed in
    let other_1 = c.write_at.ensures.others 1 (is_other 1 refl) in
    let behind_gate = behind (s d (t d)) c.args.count c.args.byte c.requires.settled in
    let after_write = always (s d) (s c.write_at.new.self) (t d) (t c.write_at.new.self) (t d) _ start c.write_at.ensures.time (λ files left. behind_gate _ _ files wrote (left 0) other_1 (left 1)) in
    after_write

pub returns-in_err-sync-clause-any_moment : goal.returns-in_err-sync-clause-any_moment
returns-in_err-sync-clause-any_moment g c =
    λ faithful.
    let faithful_1 = c.sync.ensures.faithful faithful in
    let s = g.D.Disk.state_at in
    let t = g.D.Disk.clock in
    let d = c.args.disk.now in
    let sound = g.met.D.Disk.sound in
    let always = goes_on LeavesAll in
    let start = begins LeavesAll (s d) (t d) (IsBeforeOrAfter (s d (t d)) c.args.byte) (at_start (s d (t d)) c.args.count c.args.byte c.requires.settled) in
    let wrote = any_write c.write_at.result _ _ _ _ faithful_1 c.write_at.ensures.written c.write_at.ensures.failed in
    let other_1 = c.write_at.ensures.others 1 (is_other 1 refl) in
    let behind_gate = behind (s d (t d)) c.args.count c.args.byte c.requires.settled in
    let after_write = always (s d) (s c.write_at.new.self) (t d) (t c.write_at.new.self) (t d) _ start c.write_at.ensures.time (λ files left. behind_gate _ _ files wrote (left 0) other_1 (left 1)) in
    let narrows = left_of_sync c.sync.result _ _ (sound c.write_at.new.self _ 0 faithful_1 (omega arith)) faithful c.sync.ensures.synced c.sync.ensures.failed in
    let other_2 = c.sync.ensures.others 1 (is_other 1 refl) ∙ other_1 in
    let after_sync = always (s c.write_at.new.self) (s c.sync.new.self) (t c.write_at.new.self) (t c.sync.new.self) (t d) _ after_write c.sync.ensures.time (λ files left. behind_gate _ _ files wrote (narrows (files 0) (left 0)) other_2 (left 1)) in
    after_sync

pub returns-in_err-write_at-2-clause-any_moment : goal.returns-in_err-write_at-2-clause-any_moment
returns-in_err-write_at-2-clause-any_moment g c =
    λ faithful.
    let faithful_2 = c.write_at-2.ensures.faithful faithful in
    let faithful_1 = c.sync.ensures.faithful faithful_2 in
    let s = g.D.Disk.state_at in
    let t = g.D.Disk.clock in
    let d = c.args.disk.now in
    let sound = g.met.D.Disk.sound in
    let always = goes_on LeavesAll in
    let start = begins LeavesAll (s d) (t d) (IsBeforeOrAfter (s d (t d)) c.args.byte) (at_start (s d (t d)) c.args.count c.args.byte c.requires.settled) in
    let wrote = any_write c.write_at.result _ _ _ _ faithful_1 c.write_at.ensures.written c.write_at.ensures.failed in
    let other_1 = c.write_at.ensures.others 1 (is_other 1 refl) in
    let behind_gate = behind (s d (t d)) c.args.count c.args.byte c.requires.settled in
    let after_write = always (s d) (s c.write_at.new.self) (t d) (t c.write_at.new.self) (t d) _ start c.write_at.ensures.time (λ files left. behind_gate _ _ files wrote (left 0) other_1 (left 1)) in
    let narrows = left_of_sync c.sync.result _ _ (sound c.write_at.new.self _ 0 faithful_1 (omega arith)) faithful_2 c.sync.ensures.synced c.sync.ensures.failed in
    let other_2 = c.sync.ensures.others 1 (is_other 1 refl) ∙ other_1 in
    let after_sync = always (s c.write_at.new.self) (s c.sync.new.self) (t c.write_at.new.self) (t c.sync.new.self) (t d) _ after_write c.sync.ensures.time (λ files left. behind_gate _ _ files wrote (narrows (files 0) (left 0)) other_2 (left 1)) in
    let staged = is_staged (s d (t d)) c.args.count c.args.byte c.requires.settled _ _ (c.in_ok-write_at.ensures.written faithful_1) (c.in_ok-sync.ensures.synced faithful_2) in
    let gated = any_write c.write_at-2.result _ _ _ _ faithful c.write_at-2.ensures.written c.write_at-2.ensures.failed in
    let other_3 = c.write_at-2.ensures.others 1 (is_other 1 refl) ∙ other_2 in
    let open_gate = opened (s d (t d)) c.args.count c.args.byte c.requires.settled in
    let after_gate = always (s c.sync.new.self) (s c.write_at-2.new.self) (t c.sync.new.self) (t c.write_at-2.new.self) (t d) _ after_sync c.write_at-2.ensures.time (λ files left. open_gate _ _ _ files staged gated (left 0) other_3 (left 1)) in
    after_gate

pub returns-clause-any_moment : goal.returns-clause-any_moment
returns-clause-any_moment g c =
    λ faithful.
    let faithful_3 = c.sync-2.ensures.faithful faithful in
    let faithful_2 = c.write_at-2.ensures.faithful faithful_3 in
    let faithful_1 = c.sync.ensures.faithful faithful_2 in
    let s = g.D.Disk.state_at in
    let t = g.D.Disk.clock in
    let d = c.args.disk.now in
    let sound = g.met.D.Disk.sound in
    let always = goes_on LeavesAll in
    let start = begins LeavesAll (s d) (t d) (IsBeforeOrAfter (s d (t d)) c.args.byte) (at_start (s d (t d)) c.args.count c.args.byte c.requires.settled) in
    let wrote = any_write c.write_at.result _ _ _ _ faithful_1 c.write_at.ensures.written c.write_at.ensures.failed in
    let other_1 = c.write_at.ensures.others 1 (is_other 1 refl) in
    let behind_gate = behind (s d (t d)) c.args.count c.args.byte c.requires.settled in
    let after_write = always (s d) (s c.write_at.new.self) (t d) (t c.write_at.new.self) (t d) _ start c.write_at.ensures.time (λ files left. behind_gate _ _ files wrote (left 0) other_1 (left 1)) in
    let narrows = left_of_sync c.sync.result _ _ (sound c.write_at.new.self _ 0 faithful_1 (omega arith)) faithful_2 c.sync.ensures.synced c.sync.ensures.failed in
    let other_2 = c.sync.ensures.others 1 (is_other 1 refl) ∙ other_1 in
    let after_sync = always (s c.write_at.new.self) (s c.sync.new.self) (t c.write_at.new.self) (t c.sync.new.self) (t d) _ after_write c.sync.ensures.time (λ files left. behind_gate _ _ files wrote (narrows (files 0) (left 0)) other_2 (left 1)) in
    let staged = is_staged (s d (t d)) c.args.count c.args.byte c.requires.settled _ _ (c.in_ok-write_at.ensures.written faithful_1) (c.in_ok-sync.ensures.synced faithful_2) in
    let gated = any_write c.write_at-2.result _ _ _ _ faithful_3 c.write_at-2.ensures.written c.write_at-2.ensures.failed in
    let other_3 = c.write_at-2.ensures.others 1 (is_other 1 refl) ∙ other_2 in
    let open_gate = opened (s d (t d)) c.args.count c.args.byte c.requires.settled in
    let after_gate = always (s c.sync.new.self) (s c.write_at-2.new.self) (t c.sync.new.self) (t c.write_at-2.new.self) (t d) _ after_sync c.write_at-2.ensures.time (λ files left. open_gate _ _ _ files staged gated (left 0) other_3 (left 1)) in
    let narrows_2 = left_of_sync c.sync-2.result _ _ (sound c.write_at-2.new.self _ 0 faithful_3 (omega arith)) faithful c.sync-2.ensures.synced c.sync-2.ensures.failed in
    let other_4 = c.sync-2.ensures.others 1 (is_other 1 refl) ∙ other_3 in
    let at_end = always (s c.write_at-2.new.self) (s c.sync-2.new.self) (t c.write_at-2.new.self) (t c.sync-2.new.self) (t d) _ after_gate c.sync-2.ensures.time (λ files left. open_gate _ _ _ files staged gated (narrows_2 (files 0) (left 0)) other_4 (left 1)) in
    at_end

-- once the last sync is done
pub returns-clause-added : goal.returns-clause-added
returns-clause-added g c =
    on_ok_weaker c.sync-2.result (λ synced faithful.
    let faithful_3 = c.sync-2.ensures.faithful faithful in
    let faithful_2 = c.write_at-2.ensures.faithful faithful_3 in
    let faithful_1 = c.sync.ensures.faithful faithful_2 in
    let s = g.D.Disk.state_at in
    let t = g.D.Disk.clock in
    let d = c.args.disk.now in
    let staged = is_staged (s d (t d)) c.args.count c.args.byte c.requires.settled _ _ (c.in_ok-write_at.ensures.written faithful_1) (c.in_ok-sync.ensures.synced faithful_2) in
    let added = is_added (s d (t d)) c.args.count c.args.byte c.requires.settled _ _ _ staged (c.in_ok-write_at-2.ensures.written faithful_3) (synced faithful) in
    let other = c.sync-2.ensures.others 1 (is_other 1 refl) ∙ c.write_at-2.ensures.others 1 (is_other 1 refl) ∙ c.sync.ensures.others 1 (is_other 1 refl) ∙ c.write_at.ensures.others 1 (is_other 1 refl) in
    has_one_more (s d (t d)) c.args.count c.args.byte c.requires.settled (s c.sync-2.new.self (t c.sync-2.new.self)) added other)
    c.sync-2.ensures.synced
