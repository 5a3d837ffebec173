-- A transaction in one hold: nothing of others stands between its events.
use Rattle.std.specs.Prelude.{◌≡◌, ◌≤◌, ◌⊎◌, ◌++◌, ◌∷◌, ℕ, Bool, List, [], Option, Some, None}
use Rattle.reg_tree.specs.Maps.{TreeMap}
use Rattle.reg_tree.specs.declared.op.Op.{Op}
use Rattle.store_model.specs.declared.event.Event.{Event}
use Rattle.store_model.specs.declared.event.Event.TheVariants as event
use Rattle.store_model.specs.declared.event.Reply.TheVariants as reply
use Rattle.store_model.specs.declared.handle.Tx.{Tx}
use Rattle.engine_invariant.specs.Engines.{EngineView}
use Rattle.histories.specs.Histories.{end_of}
use Rattle.histories.specs.Points.{entry_of}
use Rattle.ktm_calls.specs.Denials.{IsDenied, IsRefusal, IsWaitDenied, denial_of}
use Rattle.ktm_calls.specs.Kinds.{Told}
use Rattle.ktm_calls.specs.Moments.{AddsAtMost, AsksAtMost, NumberedSight, SeesSteps, Sight, Tells}
use Rattle.ktm_calls.specs.declared.registry.Denied.{Denied}
use Rattle.ktm_calls.specs.declared.registry.Denied.TheVariants as denied
use Rattle.ktm_calls.specs.declared.whole_transaction.WholeDenied.{WholeDenied}
use Rattle.ktm_calls.specs.declared.whole_transaction.WholeDenied.TheVariants as whole

-- The event is told, and it is the next one after what was seen before.
pub record TellsNext (sole : Bool) (start : EngineView) (trees : List TreeMap) (number hives : ℕ) (was is : Sight) (event : Event) (told : Told) : Type 0 where
  pub tells : Tells sole start trees number hives was is event told
  pub after : EngineView
  pub next : is.history ≡ was.history ++ entry_of event told.reply after ∷ []

-- There was no memory for the event, which is the next one after what was seen before, if it was put to the engine at all.
pub record AsksNextAtMost (sole : Bool) (was is : Sight) (event : Event) : Type 0 where
  pub asks : AsksAtMost sole was is event
  pub after : EngineView
  pub next : AddsAtMost was.history event after is.history

-- the event was refused as the next one, or there was no memory for it
abbrev pub IsDeniedNext : Bool → EngineView → List TreeMap → ℕ → ℕ → Sight → Sight → Event → Denied → Type 0
IsDeniedNext sole start trees number hives was is event denied.NoMemory = AsksNextAtMost sole was is event
IsDeniedNext sole start trees number hives was is event (denied.Told told) = TellsNext sole start trees number hives was is event told × IsRefusal told.reply

-- a write is told as the next event, and granted
pub record IsWritten (sole : Bool) (start : EngineView) (trees : List TreeMap) (number hives : ℕ) (was is : Sight) (event : Event) : Type 0 where
  pub told : Told
  pub tells : TellsNext sole start trees number hives was is event told
  pub granted : ¬ (IsRefusal told.reply)

-- operations are written in a transaction of a session at a moment, one after another, and each is granted
abbrev pub AreWritten : Bool → EngineView → List TreeMap → ℕ → ℕ → ℕ → Tx → ℕ → List Op → Sight → Sight → Type 0
AreWritten sole start trees number hives session tx moment [] was is = is ≡ was
AreWritten sole start trees number hives session tx moment (op ∷ ops) was is =
    (mid : Sight) × IsWritten sole start trees number hives was mid (event.TxWrite session tx moment op)
    × AreWritten sole start trees number hives session tx moment ops mid is

-- the handle of a transaction is closed; or it is still open, since its closing was refused
abbrev pub IsClosed : Bool → EngineView → List TreeMap → ℕ → ℕ → ℕ → Tx → Sight → Sight → Option Tx → Type 0
IsClosed sole start trees number hives session tx was is None = IsWritten sole start trees number hives was is (event.Close session tx)
IsClosed sole start trees number hives session tx was is (Some handle) =
    (handle ≡ tx) × ((why : Denied) × IsDeniedNext sole start trees number hives was is (event.Close session tx) why)

-- a transaction of a session was begun, for a unit of work
pub record IsBegunAs (sole : Bool) (start : EngineView) (trees : List TreeMap) (number hives : ℕ) (was is : Sight) (session : ℕ) (id : List ℕ) (tx : Tx) : Type 0 where
  pub told : Told
  pub tells : Tells sole start trees number hives was is (event.Begin session id) told
  pub answer : told.reply ≡ reply.Begun tx

-- The operations were written in a transaction, and its commit is told, with nothing between.
pub record WritesWhole (sole : Bool) (start : EngineView) (trees : List TreeMap) (number hives : ℕ) (session : ℕ) (tx : Tx) (moment : ℕ) (ops : List Op) (was is : Sight) (told : Told) : Type 0 where
  pub written : Sight
  pub writes : AreWritten sole start trees number hives session tx moment ops was written
  pub commits : TellsNext sole start trees number hives written is (event.CommitAccept session tx moment) told

-- A transaction was begun, its operations were written, and it was committed as this says, and closed, with nothing between.
pub record IsWhole (sole : Bool) (start : EngineView) (trees : List TreeMap) (number hives : ℕ) (session : ℕ) (id : List ℕ) (moment : ℕ) (ops : List Op) (was is : Sight) (told : Told) (handle : Option Tx) : Type 0 where
  pub tx : Tx
  pub begun : Sight
  pub committed : Sight
  pub begins : IsBegunAs sole start trees number hives was begun session id tx
  pub writes : WritesWhole sole start trees number hives session tx moment ops begun committed told
  pub closes : IsClosed sole start trees number hives session tx committed is handle

-- The whole transaction was accepted, and then waited for by steps and questions alone: the receipt has its number, and
-- all that was seen by then, in which it is durable.
pub record CommitsWhole (sole : Bool) (start : EngineView) (trees : List TreeMap) (number hives : ℕ) (session : ℕ) (id : List ℕ) (moment : ℕ) (ops : List Op) (was is : Sight) (receipt : NumberedSight) (told : Told) (handle : Option Tx) : Type 0 where
  pub mid : Sight
  pub own : IsWhole sole start trees number hives session id moment ops was mid told handle
  pub later : SeesSteps sole mid is
  pub awaited : told.reply ≡ reply.Awaits receipt.number
  pub carries : receipt.seen ≡ is
  pub durable : receipt.number ≤ (end_of start is.history).machine.durable

-- the event after operations that were written: the write of the next one, or the commit if none is left
abbrev pub next_event : ℕ → Tx → ℕ → List Op → Event
next_event session tx moment [] = event.CommitAccept session tx moment
next_event session tx moment (op ∷ rest) = event.TxWrite session tx moment op

-- The first operations were written, with nothing between; the next one was denied, or the commit, if none was left.
pub record StopsWriting (sole : Bool) (start : EngineView) (trees : List TreeMap) (number hives : ℕ) (session : ℕ) (tx : Tx) (moment : ℕ) (ops : List Op) (was is : Sight) (why : Denied) : Type 0 where
  pub first : List Op
  pub rest : List Op
  pub parts : ops ≡ first ++ rest
  pub written : Sight
  pub writes : AreWritten sole start trees number hives session tx moment first was written
  pub denied : IsDeniedNext sole start trees number hives written is (next_event session tx moment rest) why

-- A transaction was begun; a write or its commit was denied, and it was closed, with nothing between. So it is rolled back.
pub record IsStopped (sole : Bool) (start : EngineView) (trees : List TreeMap) (number hives : ℕ) (session : ℕ) (id : List ℕ) (moment : ℕ) (ops : List Op) (was is : Sight) (why : Denied) (handle : Option Tx) : Type 0 where
  pub tx : Tx
  pub begun : Sight
  pub stopped : Sight
  pub begins : IsBegunAs sole start trees number hives was begun session id tx
  pub stops : StopsWriting sole start trees number hives session tx moment ops begun stopped why
  pub closes : IsClosed sole start trees number hives session tx stopped is handle

-- The whole transaction was accepted, and the wait for it was denied: its change stays.
pub record IsWholeUndecided (sole : Bool) (start : EngineView) (trees : List TreeMap) (number hives : ℕ) (session : ℕ) (id : List ℕ) (moment : ℕ) (ops : List Op) (was is : Sight) (why : Denied) (handle : Option Tx) : Type 0 where
  pub mid : Sight
  pub told : Told
  pub own : IsWhole sole start trees number hives session id moment ops was mid told handle
  pub later : SeesSteps sole mid is
  pub awaited : ℕ
  pub answer : told.reply ≡ reply.Awaits awaited
  pub denied : IsWaitDenied sole start trees number hives awaited is why

-- why a whole transaction was denied: it wasn't begun; it was stopped before it was accepted; or the wait for it was denied
abbrev pub IsWholeDenied : Bool → EngineView → List TreeMap → ℕ → ℕ → ℕ → List ℕ → ℕ → List Op → Sight → Sight → WholeDenied → Type 0
IsWholeDenied sole start trees number hives session id moment ops was is (whole.NotBegun why) =
    IsDenied sole start trees number hives was is (event.Begin session id) why
IsWholeDenied sole start trees number hives session id moment ops was is (whole.Stopped why handle) =
    IsStopped sole start trees number hives session id moment ops was is why handle
IsWholeDenied sole start trees number hives session id moment ops was is (whole.Undecided why handle) =
    IsWholeUndecided sole start trees number hives session id moment ops was is why handle

-- the denial that it tells
abbrev pub denial_in : WholeDenied → Denied
denial_in (whole.NotBegun why) = why
denial_in (whole.Stopped why handle) = why
denial_in (whole.Undecided why handle) = why
