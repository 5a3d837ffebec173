-- What a line that waits for a change asks, without the wait.
use Rattle.std.specs.Prelude.{◌≡◌, ℕ, List, Option, Some, None, Result, Ok, Err}
use Rattle.refusals.specs.declared.refusal.Refusal.TheVariants.{NoSuchHandle}
use Rattle.store_model.specs.Steps.{Step}
use Rattle.store_model.specs.declared.event.Event.{Event}
use Rattle.store_model.specs.declared.event.Event.TheVariants as event
use Rattle.store_model.specs.declared.event.Reply.{Reply}
use Rattle.store_model.specs.declared.event.Reply.TheVariants as answer
use Rattle.store_model.specs.declared.handle.Tx.{Tx}
use Rattle.reply_lines.specs.declared.reply.ReplyLine.{ReplyLine}
use Rattle.reply_lines.specs.declared.reply.ReplyLine.TheVariants as reply
use Rattle.script_runner.specs.Scripts.{Script, reply_of}

-- an answer with a number is waited for, and any other is the reply
abbrev pub awaited : Reply → Result ℕ ReplyLine
awaited (answer.Awaits number) = Ok number
awaited reported = Err (reply_of reported)

-- the machine is asked one event, and the answer is what is awaited; nothing else of the script changes
abbrev pub AsksFor : Script → Event → Result ℕ ReplyLine → Script → Type 0
AsksFor old event reported new = (said : Reply) × Step old.machine event said new.machine × (reported ≡ awaited said) × (new ≡ record old { machine = new.machine })

-- the same of a commit of the transaction that a label names; a label that names nothing is refused
abbrev pub AsksForCommitOf : Option Tx → Script → Result ℕ ReplyLine → Script → Type 0
AsksForCommitOf (Some tx) old reported new = AsksFor old (event.CommitAccept old.session tx old.moment) reported new
AsksForCommitOf None old reported new = (reported ≡ Err (reply.Refused NoSuchHandle)) × (new ≡ old)

abbrev pub AsksForCommit : Script → List ℕ → Result ℕ ReplyLine → Script → Type 0
AsksForCommit old label reported new = AsksForCommitOf (old.labels label) old reported new
