use Rattle.std.proofs.Common.{subst}
use Rattle.engine.specs.Lives.{IsSafe}
use Rattle.script_runner.specs.Interpreters.{engine_of}
use Rattle.crash_lab.specs.LabStates.{files_of}
use Rattle.crash_lab.proofs.Lines.{also_kept}
use Rattle.crash_lab.proofs.lab_state.Laboratory.answer.Goals as goal

pub returns : goal.returns
returns c =
    let engine = engine_of c.reply-reported.new.self.interpreter in
    also_kept _ _ _ _ c.reply-reported.result c.reply-reported.ensures (engine.store, subst (λ engine. IsSafe engine.store engine.machine (files_of engine.disk)) c.engine.ensures (c.keeps_a_prefix.ensures tt))
