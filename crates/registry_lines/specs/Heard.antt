-- What a call of the registry answers, as the reply to the line that made it.
use Rattle.std.specs.Prelude.{◌≡◌, ℕ, ◌⊎◌, Bool, List, Option, Some, Result, Ok, Err}
use Rattle.refusals.specs.declared.refusal.Refusal.{Refusal}
use Rattle.refusals.specs.declared.refusal.Refusal.TheVariants.{NoMemory, NoSuchHandle}
use Rattle.reg_tree.specs.Maps.{TreeMap}
use Rattle.reg_tree.specs.Sequences.{after_elements}
use Rattle.script_runner.specs.Scripts.{found_reply, reply_of}
use Rattle.script_runner.specs.declared.operation.Operation.{Operation}
use Rattle.script_runner.specs.declared.operation.Operation.TheVariants.{Write, Read}
use Rattle.reply_lines.specs.declared.reply.ReplyLine.{ReplyLine}
use Rattle.reply_lines.specs.declared.reply.ReplyLine.TheVariants as reply
use Rattle.engine_invariant.specs.Engines.{EngineView}
use Rattle.store_model.specs.Machine.{read_refusal}
use Rattle.store_model.specs.declared.event.Event.{Event}
use Rattle.store_model.specs.declared.event.Event.TheVariants as event
use Rattle.store_model.specs.declared.event.ReadResult.{ReadResult}
use Rattle.store_model.specs.declared.handle.Tx.{Tx}
use Rattle.ktm_calls.specs.Denials.{IsCommitDenied}
use Rattle.ktm_calls.specs.Kinds.{Told}
use Rattle.ktm_calls.specs.Moments.{AsksAtMost, NumberedSight, SeesMore, SeesSteps, Tells, TellsDurably}
use Rattle.ktm_calls.specs.Outcomes.{HasNoOutcome, HasOutcome}
use Rattle.ktm_calls.specs.Reads.{read_within}
use Rattle.ktm_calls.specs.declared.registry.Denied.{Denied}
use Rattle.ktm_calls.specs.declared.registry.Denied.TheVariants as denied

-- the reply to a line whose call was denied, and to one whose call is answered by what was told
abbrev pub denied_reply : Denied → ReplyLine
denied_reply denied.NoMemory = reply.Refused NoMemory
denied_reply (denied.Told told) = reply_of told.reply

abbrev pub told_reply : Result Told Denied → ReplyLine
told_reply (Ok told) = reply_of told.reply
told_reply (Err why) = denied_reply why

-- a session goes on: its number stays, and what it has seen is a beginning of what it has seen then
pub record GoesOn (old new : NumberedSight) : Type 0 where
  pub number : new.number ≡ old.number
  pub seen : SeesMore old.seen new.seen

-- the same, and nothing is asked for
pub record Rests (sole : Bool) (old new : NumberedSight) : Type 0 where
  pub number : new.number ≡ old.number
  pub seen : SeesSteps sole old.seen new.seen

-- There was no memory, and nothing else was asked for. Or a machine of the registry answered the event, with all that the
-- session has seen before and after it, and the reply tells its answer.
abbrev pub IsHeard : Bool → EngineView → List TreeMap → ℕ → ℕ → NumberedSight → Event → ReplyLine → NumberedSight → Type 0
IsHeard sole origin trees number hives old event reported new =
    ((reported ≡ reply.Refused NoMemory) × AsksAtMost sole old.seen new.seen event) ⊎ ((told : Told) × Tells sole origin trees number hives old.seen new.seen event told × (reported ≡ reply_of told.reply))

abbrev pub Hears : Bool → EngineView → List TreeMap → ℕ → ℕ → NumberedSight → Event → ReplyLine → NumberedSight → Type 0
Hears sole origin trees number hives old event reported new = GoesOn old new × IsHeard sole origin trees number hives old event reported new

-- The event was answered with a number, and that number is durable: the reply tells it. Or the reply tells why not.
abbrev pub IsHeardDurably : Bool → EngineView → List TreeMap → ℕ → ℕ → NumberedSight → Event → (ℕ → ReplyLine) → ReplyLine → NumberedSight → Type 0
IsHeardDurably sole origin trees number hives old event tell reported new =
    ((receipt : NumberedSight) × (told : Told) × TellsDurably sole origin trees number hives old.seen new.seen event receipt told × (reported ≡ tell receipt.number))
    ⊎ ((why : Denied) × IsCommitDenied sole origin trees number hives old.seen new.seen event why × (reported ≡ denied_reply why))

abbrev pub HearsDurably : Bool → EngineView → List TreeMap → ℕ → ℕ → NumberedSight → Event → (ℕ → ReplyLine) → ReplyLine → NumberedSight → Type 0
HearsDurably sole origin trees number hives old event tell reported new = GoesOn old new × IsHeardDurably sole origin trees number hives old event tell reported new

-- why a read may be refused: there was no memory, the session isn't open, or there is no such hive, key or value
abbrev pub MayNotRead : Option ReadResult → Refusal → Type 0
MayNotRead there why = (why ≡ NoMemory) ⊎ (why ≡ NoSuchHandle) ⊎ (read_refusal there ≡ Some why)

-- a read alone answers what is there after the changes that the session has seen then
abbrev pub ReadsSeen : Option ReadResult → ReplyLine → Type 0
ReadsSeen there reported =
    ((found : ReadResult) × (there ≡ Some found) × (reported ≡ found_reply found)) ⊎ ((why : Refusal) × MayNotRead there why × (reported ≡ reply.Refused why))

-- a unit's commit is told by what the session has seen then, or a refusal
abbrev pub TellsOutcome : ℕ → List TreeMap → List ℕ → ReplyLine → Type 0
TellsOutcome hives trees id reported =
    ((number : ℕ) × HasOutcome hives trees id number × (reported ≡ reply.Committed number))
    ⊎ ((why : Refusal) × ((why ≡ NoMemory) ⊎ (why ≡ NoSuchHandle) ⊎ HasNoOutcome hives trees id why) × (reported ≡ reply.Refused why))

abbrev pub HearsOutcome : Bool → EngineView → List TreeMap → ℕ → ℕ → NumberedSight → List ℕ → ReplyLine → NumberedSight → Type 0
HearsOutcome sole origin trees number hives old id reported new = Rests sole old new × TellsOutcome hives (after_elements trees new.seen.list) id reported

-- a request alone, at a moment
abbrev pub HearsAlone : Bool → EngineView → List TreeMap → ℕ → ℕ → ℕ → NumberedSight → Operation → ReplyLine → NumberedSight → Type 0
HearsAlone sole origin trees number hives moment old (Write op) reported new = Hears sole origin trees number hives old (event.Write old.number moment op) reported new
HearsAlone sole origin trees number hives moment old (Read hive path question) reported new =
    Rests sole old new × ReadsSeen (read_within hives (after_elements trees new.seen.list) hive path question) reported

-- the same in a transaction
abbrev pub HearsInside : Bool → EngineView → List TreeMap → ℕ → ℕ → ℕ → Tx → NumberedSight → Operation → ReplyLine → NumberedSight → Type 0
HearsInside sole origin trees number hives moment tx old (Write op) reported new = Hears sole origin trees number hives old (event.TxWrite old.number tx moment op) reported new
HearsInside sole origin trees number hives moment tx old (Read hive path question) reported new = Hears sole origin trees number hives old (event.TxRead old.number tx hive path question) reported new
