use Rattle.std.proofs.Common.{◌≡◌, ◌∙◌, ap, arith, length}
use Rattle.store_model.specs.Machine.{Machine, with_history}
use Rattle.engine.specs.Shown.{Shown}
use Rattle.crash_lab.specs.LabStates.{files_of}
use Rattle.crash_lab.proofs.Shutting.{stays_shut}
use Rattle.crash_lab.proofs.power_loss.open_after_crash.Goals as goal

pub returns-in-Err-clause-refused : goal.returns-in-Err-clause-refused
returns-in-Err-clause-refused c =
    stays_shut c.args.tear (files_of c.args.disk.now) (files_of c.in_ok-left.left) _ c.in-Err.why c.opening_refusal.result c.in_ok-left.ensures c.in-Err.ensures.err c.opening_refusal.ensures.memory c.opening_refusal.ensures.same

-- a store that was just opened has accepted nothing
pub limit_history-requires-clause-there : goal.limit_history-requires-clause-there
limit_history-requires-clause-there c =
    let none : length c.in-Ok.engine.machine.accepted ≡ 0 = ap (λ (machine : Machine). length machine.accepted) c.in-Ok.ensures.ok.begins in
    omega (arith, none)

pub returns-else-not-has_just_begun-clause-opens : goal.returns-else-not-has_just_begun-clause-opens
returns-else-not-has_just_begun-clause-opens c = (
  files_of c.in_ok-left.left,
  c.in_ok-left.ensures,
  (
    c.in-Ok.engine.store,
    c.in-Ok.engine.machine,
    c.in-Ok.ensures.ok,
    ap (λ (engine : Shown _). engine.machine) c.limit_history.ensures ∙ ap (λ changes. with_history changes c.in-Ok.engine.machine) c.changes.ensures.changes,
  ),
)
