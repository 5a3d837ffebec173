-- What an engine answers to a step of its journal or of a hive, and what its machine is then.
use Rattle.std.specs.Prelude.{◌≡◌, ◌⊎◌, ℕ, ◌+◌, ◌-◌, ◌<◌, true, List, [], ◌++◌, length, take, drop, slice_get, Some, None, Result, Ok, Err}
use Rattle.refusals.specs.declared.refusal.Refusal.{Refusal}
use Rattle.refusals.specs.declared.refusal.Refusal.TheVariants as refusal
use Rattle.reg_tree.specs.Maps.{TreeMap}
use Rattle.reg_tree.specs.declared.element.Element.{Element}
use Rattle.hive_flush.specs.HiveStates.{tree_after_changes}
use Rattle.crash_model.specs.Life.{ops_in}
use Rattle.crash_model.specs.Promises.{Choice, Content, nothing, top}
use Rattle.change_codec.specs.ModelChanges.{TimedOp}
use Rattle.disk_model.specs.declared.progress.Progress.{Progress}
use Rattle.disk_model.specs.declared.progress.Progress.TheVariants as progress
use Rattle.commit_journal.specs.Store.{room_of}
use Rattle.store_model.specs.Machine.{Machine}
use Rattle.store_model.specs.declared.event.Reply.{Reply}
use Rattle.store_model.specs.declared.event.Reply.TheVariants as reply
use Rattle.engine_invariant.specs.States.{HiveView, life_of}

-- a step's answer as a reply
abbrev pub reply_to : Result Progress Refusal → Reply
reply_to (Ok come) = reply.Stepped come
reply_to (Err why) = reply.Refused why

-- the machine once the device has failed
abbrev pub failed : Machine → Machine
failed machine = record machine { failures = machine.failures + 1; faulted = true }

-- the machine after a refused step: if the device has failed in it the store is faulted
abbrev pub refused_by : Machine → Refusal → Machine
refused_by machine refusal.DiskFault = failed machine
refused_by machine _ = machine

-- the bytes that changes in the journal give back once they are no longer in it; none if there are more of them
abbrev pub freed : Choice (Content TimedOp) → Choice (Content TimedOp) → ℕ
freed old new = room_of old.now.elements - room_of new.now.elements

-- the machine after a step of the journal or of a trim: what the journal has is durable once the step is done, and the
-- room of changes that left it is free
abbrev pub after_step : Machine → Choice (Content TimedOp) → Choice (Content TimedOp) → Result Progress Refusal → Machine
after_step machine old new (Ok progress.Done) = record machine { durable = top machine.durable new.now; room = machine.room - freed old new }
after_step machine old new (Ok progress.Idle) = machine
after_step machine old new (Ok progress.More) = machine
after_step machine old new (Err why) = refused_by machine why

-- the machine after a step of a hive's flush
abbrev pub after_flush : Machine → Result Progress Refusal → Machine
after_flush machine (Ok come) = machine
after_flush machine (Err why) = refused_by machine why

-- The durable content of each hive has each operation on it of each durable change.
abbrev pub HaveAll : Machine → ℕ → List Element → List HiveView → Type 0
HaveAll machine base opened hives = (i : ℕ) (hive : HiveView) → slice_get hives i ≡ Some hive → ops_in (life_of machine base opened) i hive.files.now.1 machine.durable ≡ []

-- A step of a trim may be made: one is under way; or nothing is, the journal decodes to an element, and the hives have
-- all of it.
abbrev pub MayTrim : Machine → ℕ → List Element → Choice (Content TimedOp) → List HiveView → Type 0
MayTrim machine base opened journal hives = (journal.next ≡ Some nothing)
    ⊎ ((journal.next ≡ None) × (0 < length journal.now.elements) × HaveAll machine base opened hives)

-- the durable changes above a number: those that the journal decoded to at the opening, and those accepted since
abbrev pub opened_above : ℕ → List Element → ℕ → List Element
opened_above base opened number = drop (number - base) opened

abbrev pub accepted_above : Machine → ℕ → List Element
accepted_above machine number = drop (number - machine.before) (take (machine.durable - machine.before) machine.accepted)

-- what a hive has in memory once it has absorbed what it lacks
abbrev pub absorbed : Machine → ℕ → List Element → ℕ → TreeMap × ℕ → TreeMap × ℕ
absorbed machine base opened place memory =
    (tree_after_changes place (opened_above base opened memory.1 ++ accepted_above machine memory.1) memory.0, machine.durable)
