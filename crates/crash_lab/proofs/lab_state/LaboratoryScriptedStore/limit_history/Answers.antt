use Rattle.std.proofs.Common.{◌≡◌, ◌∙◌, ap, arith, length, subst}
use Rattle.engine.specs.Lives.{IsSafe}
use Rattle.engine.specs.Shown.{Shown}
use Rattle.script_runner.specs.Interpreters.{engine_of}
use Rattle.script_runner.specs.Scripts.{Script, limited}
use Rattle.disk_model.specs.MemDisks.{counts_of}
use Rattle.crash_lab.specs.LabStates.{LabState, lab_state_of, files_of}
use Rattle.crash_lab.proofs.lab_state.LaboratoryScriptedStore.limit_history.Goals as goal

pub limit_history-requires : goal.limit_history-requires
limit_history-requires c =
    let none : length (engine_of c.args.self.now.interpreter).machine.accepted ≡ 0 = ap (λ (script : Script). length script.machine.accepted) c.requires.1.script_is in
    omega (arith, none)

pub returns : goal.returns
returns c =
    let old = lab_state_of c.args.self.now in
    let new = c.limit_history.new.self in
    let limit = c.args.limit in
    record {
      is =
          ap (λ script. let one : LabState = record { script = script; limit = limit; files = files_of (engine_of new).disk; counts = counts_of (engine_of new).disk; points = old.points } in one) c.limit_history.ensures.script
          ∙ ap (λ (engine : Shown _). let one : LabState = record { script = limited limit old.script; limit = limit; files = files_of engine.disk; counts = counts_of engine.disk; points = old.points } in one) c.limit_history.ensures.engine;
      kept = ((engine_of new).store, subst (λ (engine : Shown _). IsSafe engine.store engine.machine (files_of engine.disk)) c.engine.ensures (c.keeps_a_prefix.ensures tt));
    }
