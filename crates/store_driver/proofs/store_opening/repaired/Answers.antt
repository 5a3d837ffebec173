use Rattle.std.proofs.Common.{◌<◌, ◌∙◌, ℕ, List, true, sym, subst, arith}
use Rattle.std.proofs.lemmas.Bool.{true≢false}
use Rattle.reg_tree.specs.Maps.{TreeMap}
use Rattle.commit_journal.specs.Store.{Store}
use Rattle.recovery.specs.Shown.{store_of}
use Rattle.store_driver.specs.Openings.{CrashesRecover, HasLived}
use Rattle.store_driver.proofs.OpeningLives.{found_lives}
use Rattle.store_driver.proofs.store_opening.repaired.Goals as goal

pub returns-in-Err-clause-left : goal.returns-in-Err-clause-left
returns-in-Err-clause-left g c =
    let D = g.D.Disk in
    let first = c.args.opened in
    let last = c.repair.new.opened in
    let inv = c.loop-opened.invariant in
    let same = c.in-Err.ensures.same in
    let kept = c.keeps_what_was_found.ensures in
    let end = D.state_at last.disk (D.clock last.disk) in
    let failed = D.failures first.disk < D.failures last.disk in
    let rose : failed = omega (arith, inv.5, c.in-Err.ensures.err.1) in
    subst (λ d. D.faithful d → HasLived (D.failures first.disk < D.failures d) (store_of first) first.found.number first.found.trees (D.state_at d (D.clock d))) (sym c.into_disk.ensures)
    (λ f. subst (λ (s : Store). HasLived failed s first.found.number first.found.trees end) (same.2 ∙ inv.3)
    (subst (λ (n : ℕ). HasLived failed (store_of last) n first.found.trees end) (same.0 ∙ inv.1)
    (subst (λ (ts : List TreeMap). HasLived failed (store_of last) last.found.number ts end) (same.1 ∙ inv.2)
    (found_lives failed true (store_of last) last.found.number last.found.trees end kept.many (kept.crash f) (λ e. absurd (true≢false e)) (λ e. rose)))))

pub returns-in-Err-clause-kept : goal.returns-in-Err-clause-kept
returns-in-Err-clause-kept g c =
    let D = g.D.Disk in
    let first = c.args.opened in
    let last = c.repair.new.opened in
    let inv = c.loop-opened.invariant in
    let same = c.in-Err.ensures.same in
    let end = D.state_at last.disk (D.clock last.disk) in
    subst (λ d. D.faithful d → CrashesRecover (store_of first) first.found.number first.found.trees (D.state_at d (D.clock d))) (sym c.into_disk.ensures)
    (λ f. subst (λ (s : Store). CrashesRecover s first.found.number first.found.trees end) (same.2 ∙ inv.3)
    (subst (λ (n : ℕ). CrashesRecover (store_of last) n first.found.trees end) (same.0 ∙ inv.1)
    (subst (λ (ts : List TreeMap). CrashesRecover (store_of last) last.found.number ts end) (same.1 ∙ inv.2)
    (c.keeps_what_was_found.ensures.crash f))))
