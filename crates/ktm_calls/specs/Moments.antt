-- The moment under the lock at which an event was answered.
use Rattle.std.specs.Prelude.{◌≡◌, ◌≤◌, ◌⊎◌, ◌+◌, ℕ, Bool, true, cond, List, [], ◌∷◌, ◌++◌, Option, Some, None, refl, ⊤}
use Rattle.std.specs.Coded.{Coded, code_by, coded×, coded_ℕ, coded_list}
use mathlib.Core.List.{IsPrefix}
use Rattle.refusals.specs.declared.refusal.Refusal.TheVariants.{NoMemory}
use Rattle.reg_tree.specs.Maps.{TreeMap}
use Rattle.reg_tree.specs.declared.element.Element.{Element}
use Rattle.store_model.specs.Machine.{Machine}
use Rattle.store_model.specs.Steps.{Step}
use Rattle.store_model.specs.declared.event.Event.{Event}
use Rattle.store_model.specs.declared.event.Reply.{Reply}
use Rattle.store_model.specs.declared.event.Reply.TheVariants as reply
use Rattle.transactions.specs.declared.prepared.Next.{Next}
use Rattle.published_trees.specs.Lists.{list_code}
use Rattle.histories.specs.Asked.{asked_in, is_asked}
use Rattle.histories.specs.Histories.{end_of}
use Rattle.engine_invariant.specs.Engines.{EngineView}
use Rattle.histories.specs.Points.{HistoryEntry, SeenHistory, entry_code, entry_of, seen_code}
use Rattle.ktm_calls.specs.Kinds.{Told, kind_of}

-- what one has seen of a registry: a beginning of the changes that it accepted, and of its history; and for how many events
-- it had asked by then
pub record Sight : Type 0 where
  pub list : List Element
  pub history : List HistoryEntry
  pub asked : ℕ

abbrev pub sight_code : Coded Sight
sight_code = code_by (List Element × (List HistoryEntry × ℕ)) (coded× list_code (coded× (coded_list entry_code) coded_ℕ)) (λ s. (s.list, (s.history, s.asked))) (λ p. record { list = p.0; history = p.1.0; asked = p.1.1 }) (λ _. refl)

-- nothing was seen, and nothing was asked for
abbrev pub no_sight : Sight
no_sight = record { list = []; history = []; asked = 0 }

-- what was seen before is a beginning of what is seen then
pub record SeesMore (was is : Sight) : Type 0 where
  pub list : IsPrefix was.list is.list
  pub history : IsPrefix was.history is.history

-- The same, and this one asked for nothing meanwhile. If it is the sole asker, nothing was asked for.
pub record SeesSteps (sole : Bool) (was is : Sight) : Type 0 where
  pub more : SeesMore was is
  pub same : is.asked ≡ was.asked
  pub alone : sole ≡ true → asked_in is.history ≡ asked_in was.history

-- a number and what was seen: a session; or a receipt with what it carries
pub record NumberedSight : Type 0 where
  pub number : ℕ
  pub seen : Sight

abbrev pub numbered_code : Coded NumberedSight
numbered_code = code_by (ℕ × Sight) (coded× coded_ℕ sight_code) (λ m. (m.number, m.seen)) (λ p. record { number = p.0; seen = p.1 }) (λ _. refl)

-- the end of a flusher: up to which number all was durable, and the history that was seen
pub record FlusherEnd : Type 0 where
  pub number : ℕ
  pub seen : SeenHistory

abbrev pub flusher_end_code : Coded FlusherEnd
flusher_end_code = code_by (ℕ × SeenHistory) (coded× coded_ℕ seen_code) (λ e. (e.number, e.seen)) (λ p. record { number = p.0; seen = p.1 }) (λ _. refl)

-- A machine is the store's that was opened on these trees after the change of this number. Its calls may name this many
-- hives.
pub record IsOf (trees : List TreeMap) (number named : ℕ) (machine : Machine) : Type 0 where
  pub opened : machine.opened ≡ trees
  pub before : machine.before ≡ number
  pub hives : machine.bounds.hives ≡ named

-- The event was a step of the machine, which gave this reply. What the caller had seen before is a beginning of the
-- changes accepted before it; what it has seen then is all that was accepted after it.
pub record IsAnswered (trees : List TreeMap) (number hives : ℕ) (was is : List Element) (event : Event) (reply : Reply) : Type 0 where
  pub old : Machine
  pub new : Machine
  pub step : Step old event reply new
  pub owner : IsOf trees number hives new
  pub seen : IsPrefix was old.accepted
  pub list : new.accepted ≡ is

-- The event stands in the history with this reply, as the last one that is seen of it then. What was seen before is a
-- beginning of what was before the event. The machines are those before and after it.
pub record StandsLast (start : EngineView) (was : List HistoryEntry) (event : Event) (reply : Reply) (old new : Machine) (is : List HistoryEntry) : Type 0 where
  pub past : List HistoryEntry
  pub after : EngineView
  pub seen : IsPrefix was past
  pub there : is ≡ past ++ entry_of event reply after ∷ []
  pub old_is : (end_of start past).machine ≡ old
  pub new_is : after.machine ≡ new

-- What is told of the event: its kind, and the reply that it was answered. It stands in the history that begins here. This
-- one asked for it, if it is an event that somebody asks for, and for nothing else. If there is a sole asker, nothing else
-- was asked for since what was seen before.
pub record Tells (sole : Bool) (start : EngineView) (trees : List TreeMap) (number hives : ℕ) (was is : Sight) (event : Event) (told : Told) : Type 0 where
  pub kind : told.kind ≡ kind_of event
  pub answered : IsAnswered trees number hives was.list is.list event told.reply
  pub stands : StandsLast start was.history event told.reply answered.old answered.new is.history
  pub counted : is.asked ≡ was.asked + cond (is_asked event) 1 0
  pub alone : sole ≡ true → asked_in stands.past ≡ asked_in was.history

-- The event was answered with a number, and then waited for, by steps and questions alone: the receipt has that number,
-- and all that was seen by then, in which it is durable.
pub record TellsDurably (sole : Bool) (start : EngineView) (trees : List TreeMap) (number hives : ℕ) (was is : Sight) (event : Event) (receipt : NumberedSight) (told : Told) : Type 0 where
  pub mid : Sight
  pub own : Tells sole start trees number hives was mid event told
  pub later : SeesSteps sole mid is
  pub awaited : told.reply ≡ reply.Awaits receipt.number
  pub carries : receipt.seen ≡ is
  pub durable : receipt.number ≤ (end_of start is.history).machine.durable

-- an event that is answered with a number to wait for, or refused
abbrev pub AwaitsOrRefused : Reply → Type 0
AwaitsOrRefused (reply.Awaits number) = ⊤
AwaitsOrRefused (reply.Refused why) = ⊤
AwaitsOrRefused _ = ⊥

abbrev pub IsAwaited : Event → Type 0
IsAwaited event = (old new : Machine) (answer : Reply) → Step old event answer new → AwaitsOrRefused answer

-- the list with the change that comes, if one does
abbrev pub with_next : List Element → Option Next → List Element
with_next list None = list
with_next list (Some next) = list ++ next.change.value ∷ []

-- Nothing was put to the engine. Or the event was, which had no memory, and is the last one of the history; the engine is
-- at this moment then.
abbrev pub AddsAtMost : List HistoryEntry → Event → EngineView → List HistoryEntry → Type 0
AddsAtMost was event now is = (is ≡ was) ⊎ (is ≡ was ++ entry_of event (reply.Refused NoMemory) now ∷ [])

-- This one asked for nothing; or for this event, for which there was no memory. If it is the sole asker, nothing else was
-- asked for.
pub record AsksAtMost (sole : Bool) (was is : Sight) (event : Event) : Type 0 where
  pub counted : (is.asked ≡ was.asked) ⊎ (is.asked ≡ was.asked + 1)
  pub alone : sole ≡ true → (asked_in is.history ≡ asked_in was.history) ⊎ ((after : EngineView) × (asked_in is.history ≡ asked_in was.history ++ entry_of event (reply.Refused NoMemory) after ∷ []))
