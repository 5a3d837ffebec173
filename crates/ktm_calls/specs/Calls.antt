-- The events of calls, and what they answer.
use Rattle.std.specs.Prelude.{◌≡◌, ℕ, List, Option, Some, None, ⊤}
use Rattle.reg_tree.specs.Maps.{TreeMap}
use Rattle.reg_tree.specs.declared.element.Element.{Element}
use Rattle.reg_tree.specs.declared.op.Op.{Op}
use Rattle.store_model.specs.declared.event.Event.{Event}
use Rattle.store_model.specs.declared.event.Event.TheVariants as event
use Rattle.store_model.specs.declared.event.Reply.{Reply}
use Rattle.store_model.specs.declared.event.Reply.TheVariants as reply
use Rattle.store_model.specs.declared.handle.Tx.{Tx}
use Rattle.ktm_calls.specs.Answers.{WriteStands}
use Rattle.ktm_calls.specs.declared.registry.Denied.{Denied}
use Rattle.ktm_calls.specs.declared.registry.Denied.TheVariants as denied
use Rattle.ktm_calls.specs.declared.registry.Disposition.{Disposition}
use Rattle.ktm_calls.specs.declared.registry.Disposition.TheVariants.{Created, Opened}

-- an operation by itself, or in a transaction
abbrev pub write_event : ℕ → Option Tx → ℕ → Op → Event
write_event session None moment op = event.Write session moment op
write_event session (Some tx) moment op = event.TxWrite session tx moment op

-- a key was opened exactly if the reply says so
abbrev pub Disposes : Disposition → Reply → Type 0
Disposes Opened answer = answer ≡ reply.Opened
Disposes Created answer = ¬ (answer ≡ reply.Opened)

-- a write by itself is in the list, or refused on the trees after it
abbrev pub StandsAlone : List TreeMap → ℕ → ℕ → List Element → Option Tx → ℕ → Op → Reply → Type 0
StandsAlone trees before hives list None moment op answer = WriteStands trees before hives list moment op answer
StandsAlone trees before hives list (Some tx) moment op answer = ⊤

-- the same of a refusal
abbrev pub IsDeniedAlone : List TreeMap → ℕ → ℕ → List Element → Option Tx → ℕ → Op → Denied → Type 0
IsDeniedAlone trees before hives list tx moment op denied.NoMemory = ⊤
IsDeniedAlone trees before hives list tx moment op (denied.Told told) = StandsAlone trees before hives list tx moment op told.reply
