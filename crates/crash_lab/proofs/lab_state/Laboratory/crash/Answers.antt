use Rattle.std.proofs.Common.{◌≡◌, ◌∙◌, ap, refl, sym, subst}
use Rattle.engine.specs.Shown.{Shown}
use Rattle.disk_model.specs.MemDisks.{counts_of}
use Rattle.script_runner.specs.Interpreters.{engine_of, script_of}
use Rattle.script_runner.specs.Scripts.{script_at}
use Rattle.crash_lab.specs.Devices.{HasJustBegun}
use Rattle.crash_lab.specs.LabStates.{lab_state_of, files_of}
use Rattle.crash_lab.specs.Crashes.{MayNotReopen, OpensAfterCrash}
use Rattle.crash_lab.specs.Experiments.{Crashes}
use Rattle.crash_lab.proofs.lab_state.Laboratory.crash.Goals as goal

pub returns-in-Ok : goal.returns-in-Ok
returns-in-Ok c =
    let old = c.args.self.now.interpreter in
    let new = c.reopen.new.self in
    let it = c.in-Ok.field-0 in
    let disk : c.disk.result.now ≡ (engine_of old).disk = c.disk.ensures ∙ ap (λ engine. engine.disk) c.engine.ensures in
    let machine : (script_of new).machine ≡ it.engine.machine = ap (λ script. script.machine) c.reopen.ensures.script in
    record {
      opens = subst (OpensAfterCrash c.args.tear (files_of (engine_of old).disk) c.args.self.now.limit it.number) (sym machine) (subst (λ disk. OpensAfterCrash c.args.tear (files_of disk) c.args.self.now.limit it.number it.engine.machine) disk c.in-Ok.ensures.opens);
      script_is = c.reopen.ensures.script ∙ ap (λ machine. record (script_at machine) { moment = (script_of old).moment }) (sym machine);
      limit_is = refl;
      points_is = c.in-Ok.ensures.device;
      calls = subst (λ (engine : Shown _). HasJustBegun (counts_of engine.disk)) (sym c.reopen.ensures.engine) c.in-Ok.ensures.calls;
    }

pub returns-in-Err : goal.returns-in-Err
returns-in-Err c =
    let old = lab_state_of c.args.self.now in
    let disk : c.disk.result.now ≡ (engine_of c.args.self.now.interpreter).disk = c.disk.ensures ∙ ap (λ engine. engine.disk) c.engine.ensures in
    subst (λ reported. Crashes c.args.tear old reported old) (sym c.reported.ensures) (subst (λ disk. MayNotReopen c.args.tear (files_of disk) c.in-Err.refusal) disk c.in-Err.ensures.refused, refl)
