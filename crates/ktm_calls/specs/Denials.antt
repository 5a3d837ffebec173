-- What a refused call tells.
use Rattle.std.specs.Prelude.{◌≡◌, ℕ, ◌⊎◌, Bool, true, List, Option, Some, None, ⊤}
use Rattle.logbook.specs.Pages.{Book}
use Rattle.refusals.specs.declared.refusal.Refusal.{Refusal}
use Rattle.refusals.specs.declared.refusal.Refusal.TheVariants.{NoMemory}
use Rattle.reg_tree.specs.Maps.{TreeMap}
use Rattle.store_model.specs.declared.event.Event.{Event}
use Rattle.store_model.specs.declared.event.Event.TheVariants as event
use Rattle.store_model.specs.declared.event.Reply.{Reply}
use Rattle.store_model.specs.declared.event.Reply.TheVariants as reply
use Rattle.engine_invariant.specs.Engines.{EngineView}
use Rattle.ktm_calls.specs.Kinds.{Told}
use Rattle.ktm_calls.specs.Moments.{AsksAtMost, NumberedSight, SeesMore, SeesSteps, Sight, Tells}
use Rattle.ktm_calls.specs.Waiting.{WaitFails, IsDone, IsFailedStep, is_step_kind}
use Rattle.ktm_calls.specs.declared.locked.OpenResult.{OpenResult}
use Rattle.ktm_calls.specs.declared.locked.OpenResult.TheVariants as opening
use Rattle.ktm_calls.specs.declared.registry.Denied.{Denied}
use Rattle.ktm_calls.specs.declared.registry.Denied.TheVariants as denied
use Rattle.ktm_calls.specs.declared.registry.Turn.{Turn}
use Rattle.ktm_calls.specs.declared.registry.Turn.TheVariants as turn

abbrev pub refusal_in : Reply → Option Refusal
refusal_in (reply.Refused why) = Some why
refusal_in _ = None

abbrev pub IsRefusal : Reply → Type 0
IsRefusal (reply.Refused why) = ⊤
IsRefusal _ = ⊥

-- a refusal that was told is handed on as it is
abbrev pub Denies : Told → Denied → Type 0
Denies told denied.NoMemory = ⊥
Denies told (denied.Told same) = (same ≡ told) × IsRefusal told.reply

-- there was no memory, and nothing else was asked for; or this event was refused
abbrev pub IsDenied : Bool → EngineView → List TreeMap → ℕ → ℕ → Sight → Sight → Event → Denied → Type 0
IsDenied sole start trees number hives was is event denied.NoMemory = AsksAtMost sole was is event
IsDenied sole start trees number hives was is event (denied.Told told) = Tells sole start trees number hives was is event told × IsRefusal told.reply

-- The session was opened, behind what was seen before: all that was accepted by then is what it has seen.
abbrev pub IsOpened : Bool → EngineView → List TreeMap → ℕ → ℕ → Sight → NumberedSight → Told → Type 0
IsOpened sole start trees number hives was session told = Tells sole start trees number hives was session.seen (event.StartSession session.number) told × SeesMore was session.seen × ¬ (IsRefusal told.reply)

-- a session was not opened: there was no memory, or its event was refused
abbrev pub IsNotOpened : Bool → EngineView → List TreeMap → ℕ → ℕ → Sight → Sight → Denied → Type 0
IsNotOpened sole start trees number hives was is why = (session : ℕ) × IsDenied sole start trees number hives was is (event.StartSession session) why

-- what became of a session that was to be opened, and what is seen then
abbrev pub OpensOrNot : {O : Type 0} → Bool → EngineView → List TreeMap → ℕ → ℕ → Sight → Sight → OpenResult O → Type 0
OpensOrNot sole start trees number hives was is (opening.Session session told) = IsOpened sole start trees number hives was (record { number = session; seen = is }) told
OpensOrNot sole start trees number hives was is (opening.Refused told) = (session : ℕ) × Tells sole start trees number hives was is (event.StartSession session) told × IsRefusal told.reply
OpensOrNot sole start trees number hives was is opening.NoMemory = (session : ℕ) × AsksAtMost sole was is (event.StartSession session)

-- What was waited for was refused since the device failed, as the last of what is seen then. Or there was no memory for a
-- step of the journal.
abbrev pub IsWaitDenied : Bool → EngineView → List TreeMap → ℕ → ℕ → ℕ → Sight → Denied → Type 0
IsWaitDenied sole start trees number hives awaited is denied.NoMemory = ⊤
IsWaitDenied sole start trees number hives awaited is (denied.Told told) = (was : Sight) × WaitFails sole start trees number hives awaited was is told

-- The event was answered with a number, and the wait for it was refused: the change that it may have accepted stays.
pub record IsUndecided (sole : Bool) (start : EngineView) (trees : List TreeMap) (number hives : ℕ) (was is : Sight) (event : Event) (why : Denied) : Type 0 where
  pub mid : Sight
  pub told : Told
  pub own : Tells sole start trees number hives was mid event told
  pub later : SeesSteps sole mid is
  pub awaited : ℕ
  pub answer : told.reply ≡ reply.Awaits awaited
  pub denied : IsWaitDenied sole start trees number hives awaited is why

-- The call's own event was refused; or it was answered, and the wait for what it answered was refused.
abbrev pub IsCommitDenied : Bool → EngineView → List TreeMap → ℕ → ℕ → Sight → Sight → Event → Denied → Type 0
IsCommitDenied sole start trees number hives was is event why =
    IsDenied sole start trees number hives was is event why ⊎ IsUndecided sole start trees number hives was is event why

-- a turn of the flusher made a step; or it made none, and nothing is left to do
abbrev pub IsStepOrStop : Book → EngineView → Turn → Type 0
IsStepOrStop history start (turn.Step told) = is_step_kind told.kind ≡ true
IsStepOrStop history start (turn.Stopped stopped) = IsDone history start stopped

abbrev pub IsTurnDenied : Denied → Type 0
IsTurnDenied denied.NoMemory = ⊤
IsTurnDenied (denied.Told told) = IsFailedStep told

-- the refusal that a call is denied with
abbrev pub denial_of : Denied → Option Refusal
denial_of denied.NoMemory = Some NoMemory
denial_of (denied.Told told) = refusal_in told.reply

-- the refusal of a denial that has one
abbrev pub Gives : Denied → Refusal → Type 0
Gives why refusal = (same : Refusal) → denial_of why ≡ Some same → refusal ≡ same
