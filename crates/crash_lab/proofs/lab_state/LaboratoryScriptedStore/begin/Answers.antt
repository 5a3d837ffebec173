use Rattle.std.proofs.Common.{◌≡◌, ◌∙◌, ℕ, Some, IfSome, ap, sym, subst}
use Rattle.store_model.specs.Machine.{bounds_for, fresh_machine}
use Rattle.store_model.specs.Steps.{with_session}
use Rattle.engine.specs.Lives.{IsSafe}
use Rattle.script_loop.specs.FirstLines.{hives_asked}
use Rattle.script_runner.specs.Scripts.{script_at}
use Rattle.engine.specs.Shown.{Shown}
use Rattle.disk_model.specs.MemDisks.{counts_of}
use Rattle.crash_lab.specs.Devices.{HasJustBegun}
use Rattle.crash_lab.specs.LabStates.{files_of}
use Rattle.crash_lab.proofs.lab_state.LaboratoryScriptedStore.begin.Goals as goal

pub returns-else-not-has_just_begun-clause-some : goal.returns-else-not-has_just_begun-clause-some
returns-else-not-has_just_begun-clause-some c =
    let made = subst (λ made. IfSome made (λ engine. (hives : ℕ) × (hives_asked c.args.line.now ≡ Some hives) × (engine.machine ≡ with_session (fresh_machine (bounds_for hives)) 0))) c.in-Some.is c.in_ok-engine.ensures.some in (
      made.0,
      made.1,
      record {
        script_is = c.new-interpreter.ensures.script ∙ ap script_at made.2;
        limit_is = c.most.ensures;
        points_is = c.in_ok-device.ensures;
        calls = subst (λ disk. HasJustBegun (counts_of disk)) (c.disk.ensures ∙ ap (λ (engine : Shown _). engine.disk) (sym c.new-interpreter.ensures.engine)) (c.has_just_begun.ensures c.if-not-has_just_begun.false);
        kept = (c.new-interpreter.result.engine.store, subst (λ engine. IsSafe engine.store engine.machine (files_of engine.disk)) (sym c.new-interpreter.ensures.engine) (c.keeps_a_prefix.ensures tt));
      },
    )
