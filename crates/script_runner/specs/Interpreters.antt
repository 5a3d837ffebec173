-- What an interpreter shows: a script between two lines.
use Rattle.std.specs.Prelude.{ℕ, Result, Ok, Err}
use Rattle.reply_lines.specs.declared.reply.ReplyLine.{ReplyLine}
use Rattle.engine.specs.Shown.{Shown}
use Rattle.script_runner.specs.Scripts.{Script}
use Rattle.script_runner.specs.Labels.{named_by}
use Rattle.script_runner.specs.declared.interpreter.Interpreter.{Interpreter}

-- its store
abbrev pub engine_of : {D : Type 0} → Interpreter D → Shown D
engine_of interpreter = interpreter.engine

abbrev pub script_of : {D : Type 0} → Interpreter D → Script
script_of interpreter = record { machine = interpreter.engine.machine; moment = interpreter.moment; session = interpreter.session; labels = named_by interpreter.labels }

-- the reply of a line that has waited for a change: by the change's number, or the reply that came instead
abbrev pub reply_by : (ℕ → ReplyLine) → Result ℕ ReplyLine → ReplyLine
reply_by tell (Ok number) = tell number
reply_by tell (Err reported) = reported
