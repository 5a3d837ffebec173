-- What becomes of the holds of those who wait for a change, and of the flusher.
use Rattle.std.specs.Prelude.{◌≡◌, ℕ, ◌<◌, ◌≤◌, ◌+◌, ◌⊎◌, Bool, true, false, List, length, Option, Some, None, ⊤}
use Rattle.logbook.specs.Pages.{Book}
use Rattle.refusals.specs.declared.refusal.Refusal.TheVariants.{DiskFault, Faulted}
use Rattle.reg_tree.specs.Maps.{TreeMap}
use Rattle.engine_invariant.specs.Engines.{EngineView}
use Rattle.engine_invariant.specs.Idle.{HiveIsFlushed, IsTrimmed}
use Rattle.histories.specs.Histories.{end_of}
use Rattle.store_model.specs.Machine.{Machine, last_number}
use Rattle.store_model.specs.declared.event.Event.{Event}
use Rattle.store_model.specs.declared.event.Event.TheVariants as event
use Rattle.store_model.specs.declared.event.Reply.{Reply}
use Rattle.store_model.specs.declared.event.Reply.TheVariants as reply
use Rattle.ktm_calls.specs.declared.event_kind.EventKind.{EventKind}
use Rattle.ktm_calls.specs.declared.event_kind.EventKind.TheVariants as kind
use Rattle.ktm_calls.specs.Kinds.{Told}
use Rattle.ktm_calls.specs.Moments.{FlusherEnd, NumberedSight, Sight, Tells}
use Rattle.ktm_calls.specs.declared.room.UsedRoom.{UsedRoom}
use Rattle.ktm_calls.specs.declared.waiting.WaitResult.{WaitResult}
use Rattle.ktm_calls.specs.declared.waiting.WaitResult.TheVariants as waited
use Rattle.ktm_calls.specs.declared.waiting.CheckpointResult.{CheckpointResult}
use Rattle.ktm_calls.specs.declared.waiting.CheckpointResult.TheVariants as checkpoint
use Rattle.ktm_calls.specs.declared.waiting.TurnResult.{TurnResult}
use Rattle.ktm_calls.specs.declared.waiting.TurnResult.TheVariants as turned

-- the event was refused since the device failed, in it or before
abbrev pub HasFailed : Reply → Type 0
HasFailed (reply.Refused why) = (why ≡ DiskFault) ⊎ (why ≡ Faulted)
HasFailed _ = ⊥

-- The question whether a number is durable, or a step of the journal, was refused since the device failed. That is the
-- last of what is seen then.
abbrev pub WaitFails : Bool → EngineView → List TreeMap → ℕ → ℕ → ℕ → Sight → Sight → Told → Type 0
WaitFails sole start trees number hives awaited was is told =
    (Tells sole start trees number hives was is (event.Acked awaited) told ⊎ Tells sole start trees number hives was is event.JournalStep told) × HasFailed told.reply

-- a receipt has the number that was asked for, and all that is seen
abbrev pub EndsWait : {O : Type 0} → Bool → EngineView → List TreeMap → ℕ → ℕ → ℕ → Sight → Sight → WaitResult O → Type 0
EndsWait sole start trees number hives awaited was is (waited.Again mode) = ⊤
EndsWait sole start trees number hives awaited was is (waited.Done receipt) = receipt ≡ record { number = awaited; seen = is }
EndsWait sole start trees number hives awaited was is (waited.Refused told) = WaitFails sole start trees number hives awaited was is told
EndsWait sole start trees number hives awaited was is waited.NoMemory = ⊤

-- the kinds of the flusher's events
abbrev pub is_step_kind : EventKind → Bool
is_step_kind kind.JournalStep = true
is_step_kind (kind.FlusherStep hive) = true
is_step_kind kind.TrimStep = true
is_step_kind _ = false

-- No step of the flusher has anything to do: all that was accepted is durable, each hive has it, and there is nothing to
-- trim, or the store is faulted.
pub record HasNoWork (engine : EngineView) : Type 0 where
  pub durable : engine.machine.durable ≡ last_number engine.machine
  pub flushed : (i : ℕ) → i < length engine.hives → HiveIsFlushed engine.machine engine.base engine.opened engine.hives i
  pub trimmed : engine.machine.faulted ≡ false → IsTrimmed engine.machine engine.base engine.opened engine.journal engine.hives

-- In the history of this book, which began here, no step had anything to do where it was seen last. All up to the number
-- was durable then.
pub record IsDone (history : Book) (start : EngineView) (stopped : FlusherEnd) : Type 0 where
  pub book : stopped.seen.book ≡ history
  pub idle : HasNoWork (end_of start stopped.seen.log)
  pub number : stopped.number ≡ (end_of start stopped.seen.log).machine.durable

-- so many bytes of the journal's room were used at the end of what was seen of the history of this book, which began here
abbrev pub IsUsedRoom : Book → EngineView → UsedRoom → Type 0
IsUsedRoom history start used = (used.seen.book ≡ history) × (used.bytes ≡ (end_of start used.seen.log).machine.room)

-- the room that was waited for is used; or it wasn't waited for any longer
abbrev pub IsUsed : Book → EngineView → ℕ → Option UsedRoom → Type 0
IsUsed history start least None = ⊤
IsUsed history start least (Some used) = IsUsedRoom history start used × (least ≤ used.bytes)

-- an event of the flusher: a step of the journal, of the flush of a hive that is there, or of a trim
abbrev pub IsWork : Machine → Event → Type 0
IsWork machine event.JournalStep = ⊤
IsWork machine (event.FlusherStep hive) = hive < length machine.opened
IsWork machine event.TrimStep = ⊤
IsWork machine _ = ⊥

-- a step that was made, or refused since the device failed
abbrev pub SteppedOrFailed : Reply → Type 0
SteppedOrFailed (reply.Stepped progress) = ⊤
SteppedOrFailed (reply.Refused why) = (why ≡ DiskFault) ⊎ (why ≡ Faulted)
SteppedOrFailed _ = ⊥

-- A receipt is of all that was accepted, in a list that begins after a number. Nothing is left to do in the history that
-- it carries.
abbrev pub IsOfAll : EngineView → ℕ → NumberedSight → Type 0
IsOfAll start number receipt = (receipt.number ≡ number + length receipt.seen.list) × HasNoWork (end_of start receipt.seen.history)

-- a step that was made or refused; or a receipt of all that was accepted
abbrev pub EndsCheckpoint : {O : Type 0} → EngineView → ℕ → CheckpointResult O → Type 0
EndsCheckpoint start number (checkpoint.Step told) = (is_step_kind told.kind ≡ true) × SteppedOrFailed told.reply
EndsCheckpoint start number checkpoint.NoMemory = ⊤
EndsCheckpoint start number (checkpoint.Done receipt) = IsOfAll start number receipt

-- a step that was made or refused; it waits, or ends, only if the engine has nothing to do
abbrev pub IsTurn : Book → EngineView → EngineView → TurnResult → Type 0
IsTurn history start engine (turned.Step told) = (is_step_kind told.kind ≡ true) × SteppedOrFailed told.reply
IsTurn history start engine turned.NoMemory = ⊤
IsTurn history start engine turned.Wait = HasNoWork engine
IsTurn history start engine (turned.Stopped stopped) = IsDone history start stopped

-- a step of the flusher was refused since the device failed
abbrev pub IsFailedStep : Told → Type 0
IsFailedStep told = (is_step_kind told.kind ≡ true) × HasFailed told.reply
