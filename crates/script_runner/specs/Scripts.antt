-- What the lines of a script ask of a store, and the replies to them.
use Rattle.std.specs.Prelude.{◌≡◌, ◌≢◌, ℕ, ◌⊎◌, List, Option, Some, None, Result, Ok, Err}
use Rattle.refusals.specs.declared.refusal.Refusal.{Refusal}
use Rattle.refusals.specs.declared.refusal.Refusal.TheVariants.{NoMemory, NoSuchHandle}
use Rattle.script_syntax.specs.Lines.{line_of}
use Rattle.script_syntax.specs.declared.line.Line.{Line}
use Rattle.script_syntax.specs.declared.line.Line.TheVariants.{Hives, History, At, Session, End, Plain, Begin, Inside, Commit, Rollback, Close, Outcome, Kept, Flush, Fold, Served, Lab}
use Rattle.reply_lines.specs.declared.reply.ReplyLine.{ReplyLine}
use Rattle.reply_lines.specs.declared.reply.ReplyLine.TheVariants as reply
use Rattle.store_model.specs.Machine.{Machine, bounds_for, fresh_machine, with_history}
use Rattle.store_model.specs.Steps.{Step, with_session}
use Rattle.store_model.specs.declared.handle.Tx.{Tx}
use Rattle.store_model.specs.declared.handle.Outcome.{Outcome as TxOutcome}
use Rattle.store_model.specs.declared.handle.Outcome.TheVariants as standing
use Rattle.store_model.specs.declared.event.Event.{Event}
use Rattle.store_model.specs.declared.event.Event.TheVariants as event
use Rattle.store_model.specs.declared.event.ReadResult.{ReadResult}
use Rattle.store_model.specs.declared.event.ReadResult.TheVariants as found
use Rattle.disk_model.specs.declared.progress.Progress.{Progress}
use Rattle.disk_model.specs.declared.progress.Progress.TheVariants as progress
use Rattle.store_model.specs.declared.event.Reply.{Reply}
use Rattle.store_model.specs.declared.event.Reply.TheVariants as answer
use Rattle.script_runner.specs.Requests.{operation_of}
use Rattle.store_driver.specs.Waits.{IsWaited}
use Rattle.script_runner.specs.declared.operation.Operation.{Operation}
use Rattle.script_runner.specs.declared.operation.Operation.TheVariants.{Write, Read}

-- a script between two lines: the machine, the moment and the session of what follows, and the transaction that each
-- label names
pub record Script : Type 0 where
  pub machine : Machine
  pub moment : ℕ
  pub session : ℕ
  pub labels : List ℕ → Option Tx

-- a script before its first line over a machine: the moment is 0, session 0 is the current one, and no label names
-- anything
abbrev pub script_at : Machine → Script
script_at machine = record { machine = machine; moment = 0; session = 0; labels = λ label. None }

-- a script that has made its store, of `hives` new hives: session 0 is open
abbrev pub fresh_script : ℕ → Script
fresh_script hives = script_at (with_session (fresh_machine (bounds_for hives)) 0)

-- the script over a store whose history may have this many changes
abbrev pub limited : ℕ → Script → Script
limited limit script = record script { machine = with_history limit script.machine }

-- the result of a read as a reply; no line asks for a subkey by its index
abbrev pub found_reply : ReadResult → ReplyLine
found_reply (found.Value value) = reply.Value value.kind value.«data»
found_reply (found.Key name) = reply.Done
found_reply (found.Keys names) = reply.Keys names
found_reply (found.ValueNames names) = reply.Values names
found_reply (found.Counts info) = reply.Info info.subkeys info.values info.time

-- a write alone, and one in a transaction, with the keys that it made, if it is a creation
abbrev pub accepted_reply : Option ℕ → ℕ → ReplyLine
accepted_reply None number = reply.Accepted number
accepted_reply (Some levels) number = reply.Created levels number

abbrev pub added_reply : Option ℕ → ReplyLine
added_reply None = reply.Done
added_reply (Some levels) = reply.CreatedInside levels

-- the outcome of a transaction
abbrev pub outcome_reply : TxOutcome → ReplyLine
outcome_reply standing.Active = reply.StillActive
outcome_reply standing.Committed = reply.HasCommitted
outcome_reply standing.RolledBack = reply.RolledBack

-- how far a step came
abbrev pub step_reply : Progress → ReplyLine
step_reply progress.Idle = reply.StepIdle
step_reply progress.More = reply.StepMore
step_reply progress.Done = reply.StepDone

-- An answer of the machine as a reply. A line that doesn't wait reports as accepted what is to be waited for; the lines
-- that wait have replies of their own. No line is answered with a receipt.
abbrev pub reply_of : Reply → ReplyLine
reply_of answer.Done = reply.Done
reply_of (answer.Accepted levels number) = accepted_reply levels number
reply_of (answer.Added levels) = added_reply levels
reply_of answer.Opened = reply.Opened
reply_of (answer.Read found) = found_reply found
reply_of (answer.Begun tx) = reply.Done
reply_of (answer.OutcomeIs outcome) = outcome_reply outcome
reply_of (answer.CommittedAs number) = reply.Committed number
reply_of (answer.Refused refusal) = reply.Refused refusal
reply_of (answer.Awaits number) = reply.Accepted number
reply_of (answer.Receipt number) = reply.Done
reply_of answer.NotYet = reply.NotYet
reply_of (answer.Folded number) = reply.Folded number
reply_of (answer.Stepped progress) = step_reply progress

-- the machine is asked one event, and its answer is the reply; nothing else of the script changes
abbrev pub Asks : Script → Event → ReplyLine → Script → Type 0
Asks old event reported new = (answer : Reply) × Step old.machine event answer new.machine × (reported ≡ reply_of answer) × (new ≡ record old { machine = new.machine })

-- the same of an event that is refused
abbrev pub IsRefusedBy : Script → Event → ReplyLine → Script → Type 0
IsRefusedBy old event reported new =
    (refusal : Refusal) × Step old.machine event (answer.Refused refusal) new.machine × (reported ≡ reply.Refused refusal) × (new ≡ record old { machine = new.machine })

-- the reply of a line that has waited: its own, with the change's number, or the refusal that ended the wait
abbrev pub waited_reply : Option Refusal → ReplyLine → ReplyLine
waited_reply None reported = reported
waited_reply (Some refusal) reported = reply.Refused refusal

-- What follows an answer: the change whose number it has is waited for, up to its receipt; any other answer is the
-- reply.
abbrev pub WaitsForChange : Reply → (ℕ → ReplyLine) → Machine → ReplyLine → Machine → Type 0
WaitsForChange (answer.Awaits number) tell old reported new = (ended : Option Refusal) × IsWaited old number ended new × (reported ≡ waited_reply ended (tell number))
WaitsForChange answer tell old reported new = (reported ≡ reply_of answer) × (new ≡ old)

-- the machine is asked an event, and the change that its answer names is waited for
abbrev pub AsksAndWaits : Script → Event → (ℕ → ReplyLine) → ReplyLine → Script → Type 0
AsksAndWaits old event tell reported new =
    (answer : Reply) × (mid : Machine) × Step old.machine event answer mid × WaitsForChange answer tell mid reported new.machine × (new ≡ record old { machine = new.machine })

-- a refusal that changes nothing
abbrev pub IsRefused : Script → Refusal → ReplyLine → Script → Type 0
IsRefused old refusal reported new = (reported ≡ reply.Refused refusal) × (new ≡ old)

-- a name that isn't allowed is refused, and else what the request asks for is asked
abbrev pub IsNamed : Result Operation Refusal → (Operation → Type 0) → Script → ReplyLine → Script → Type 0
IsNamed (Ok asked) asks old reported new = asks asked
IsNamed (Err refusal) asks old reported new = IsRefused old refusal reported new

-- a label that names nothing is refused, and else its transaction is asked about
abbrev pub IsLabelled : Option Tx → (Tx → Type 0) → Script → ReplyLine → Script → Type 0
IsLabelled (Some tx) asks old reported new = asks tx
IsLabelled None asks old reported new = IsRefused old NoSuchHandle reported new

-- memory for a name or a label may be refused
abbrev pub OrNoMemory : Script → ReplyLine → Script → Type 0 → Type 0
OrNoMemory old reported new heard = heard ⊎ IsRefused old NoMemory reported new

-- the event of a request alone, in the current session, and of one in a transaction
abbrev pub event_alone : Script → Operation → Event
event_alone script (Write op) = event.Write script.session script.moment op
event_alone script (Read hive path question) = event.Read script.session hive path question

abbrev pub event_inside : Script → Tx → Operation → Event
event_inside script tx (Write op) = event.TxWrite script.session tx script.moment op
event_inside script tx (Read hive path question) = event.TxRead script.session tx hive path question

-- the session is open, and the current one from now on
abbrev pub Enters : Script → ℕ → ReplyLine → Script → Type 0
Enters old number reported new =
    Step old.machine (event.StartSession number) answer.Done new.machine × (reported ≡ reply.Done) × (new ≡ record old { machine = new.machine; session = number })

-- a label names a transaction, and every other label names what it named
pub record Names (old new : List ℕ → Option Tx) (label : List ℕ) (tx : Tx) : Type 0 where
  pub named : new label ≡ Some tx
  pub others : (other : List ℕ) → other ≢ label → new other ≡ old other

-- each label names what it named
abbrev pub SameNames : (List ℕ → Option Tx) → (List ℕ → Option Tx) → Type 0
SameNames old new = (label : List ℕ) → new label ≡ old label

-- a transaction is begun, and the label names it from now on
abbrev pub Begins : Script → List ℕ → List ℕ → ReplyLine → Script → Type 0
Begins old label id reported new =
    (tx : Tx) × Step old.machine (event.Begin old.session id) (answer.Begun tx) new.machine × (reported ≡ reply.Done)
    × (new ≡ record old { machine = new.machine; labels = new.labels }) × Names old.labels new.labels label tx

-- no transaction is begun, and each label names what it named
abbrev pub BeginsNothing : Script → List ℕ → ReplyLine → Script → Type 0
BeginsNothing old id reported new =
    (refusal : Refusal) × Step old.machine (event.Begin old.session id) (answer.Refused refusal) new.machine × (reported ≡ reply.Refused refusal)
    × (new ≡ record old { machine = new.machine; labels = new.labels }) × SameNames old.labels new.labels

-- From old, the line may be answered this reply, and leave new. Its names are tested first: the path, then a value's
-- name; then its label.
abbrev pub Answers : Script → Line → ReplyLine → Script → Type 0
Answers old (Hives count) reported new = ⊥
Answers old (History limit) reported new = ⊥
Answers old (At moment) reported new = (reported ≡ reply.Done) × (new ≡ record old { moment = moment })
Answers old (Session number) reported new = Enters old number reported new ⊎ IsRefusedBy old (event.StartSession number) reported new
Answers old (End number) reported new = Asks old (event.EndSession number) reported new
Answers old (Plain request) reported new =
    OrNoMemory old reported new (IsNamed (operation_of request) (λ asked. Asks old (event_alone old asked) reported new) old reported new)
Answers old (Inside label request) reported new =
    OrNoMemory old reported new (IsNamed (operation_of request) (λ asked. IsLabelled (old.labels label) (λ tx. Asks old (event_inside old tx asked) reported new) old reported new) old reported new)
Answers old (Begin label id) reported new = OrNoMemory old reported new (Begins old label id reported new ⊎ BeginsNothing old id reported new)
Answers old (Commit label) reported new =
    IsLabelled (old.labels label) (λ tx. AsksAndWaits old (event.CommitAccept old.session tx old.moment) reply.Committed reported new) old reported new
Answers old (Rollback label) reported new = IsLabelled (old.labels label) (λ tx. Asks old (event.Rollback old.session tx) reported new) old reported new
Answers old (Close label) reported new = IsLabelled (old.labels label) (λ tx. Asks old (event.Close old.session tx) reported new) old reported new
Answers old (Outcome label) reported new = IsLabelled (old.labels label) (λ tx. Asks old (event.Outcome old.session tx) reported new) old reported new
Answers old (Kept id) reported new = Asks old (event.OutcomeOf id) reported new
Answers old Flush reported new = AsksAndWaits old event.FlushAsk reply.Flushed reported new
Answers old Fold reported new = Asks old event.Fold reported new
Answers old (Served line) reported new = ⊥
Answers old (Lab line) reported new = ⊥

-- a line that only a laboratory takes is none here
abbrev pub later_line : Option Line → Option Line
later_line None = None
later_line (Some (Hives count)) = None
later_line (Some (History limit)) = None
later_line (Some (At moment)) = Some (At moment)
later_line (Some (Session number)) = Some (Session number)
later_line (Some (End number)) = Some (End number)
later_line (Some (Plain request)) = Some (Plain request)
later_line (Some (Inside label request)) = Some (Inside label request)
later_line (Some (Begin label id)) = Some (Begin label id)
later_line (Some (Commit label)) = Some (Commit label)
later_line (Some (Rollback label)) = Some (Rollback label)
later_line (Some (Close label)) = Some (Close label)
later_line (Some (Outcome label)) = Some (Outcome label)
later_line (Some (Kept id)) = Some (Kept id)
later_line (Some Flush) = Some Flush
later_line (Some Fold) = Some Fold
later_line (Some (Served line)) = None
later_line (Some (Lab line)) = None

-- the line of the bytes of any further line
abbrev pub line_asked : List ℕ → Option Line
line_asked bytes = later_line (line_of bytes)
