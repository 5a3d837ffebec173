use Rattle.std.proofs.Common.{◌≡◌, ℕ, length, sym, subst}
use Rattle.disk_model.specs.MemDisk.{states, earlier}
use Rattle.disk_model.specs.Tear.{IsCrashOf}
use Rattle.crash_sweep.proofs.Findings.{found_open, found_nothing}
use Rattle.crash_sweep.proofs.finding.opening_behind.Goals as goal

pub returns-in-Ok : goal.returns-in-Ok
returns-in-Ok c =
    let disk = c.args.disk.now in
    let left = c.in_ok-left.left in
    let now = states disk.past disk.files.items (length (earlier disk.past)) in
    let by = subst (λ k. (f : ℕ) → IsCrashOf c.args.tear (now f) (states left.past left.files.items k f)) (sym c.in_ok-left.ensures.clock) c.in_ok-left.ensures.left in
    found_open c.args.tear c.args.bounds now (states left.past left.files.items (length (earlier left.past))) c.in-Ok.engine.store c.in-Ok.number c.in-Ok.engine.machine c.finding_of.result by c.in-Ok.ensures.ok c.finding_of.ensures

pub returns : goal.returns
returns c =
    let disk = c.args.disk.now in
    let left = c.in_ok-left.left in
    let now = states disk.past disk.files.items (length (earlier disk.past)) in
    let by = subst (λ k. (f : ℕ) → IsCrashOf c.args.tear (now f) (states left.past left.files.items k f)) (sym c.in_ok-left.ensures.clock) c.in_ok-left.ensures.left in
    found_nothing _ c.args.tear c.args.bounds now (states left.past left.files.items (length (earlier left.past))) _ c.in-Err.why c.nothing_for.result by c.in-Err.ensures.err c.nothing_for.ensures
