-- What an engine answers to an event, and its state after it.
use Rattle.std.specs.Prelude.{◌≡◌, ◌⊎◌, ℕ, ◌+◌, ◌<◌, ◌≤◌, false, List, ◌++◌, slice_get, Some}
use Rattle.refusals.specs.declared.refusal.Refusal.{Refusal}
use Rattle.refusals.specs.declared.refusal.Refusal.TheVariants.{DiskFault}
use Rattle.reg_tree.specs.declared.element.Element.{Element}
use Rattle.crash_model.specs.Promises.{BeginsTrim, Choice, Content}
use Rattle.change_codec.specs.ModelChanges.{TimedOp}
use Rattle.store_model.specs.Machine.{Machine}
use Rattle.store_model.specs.Steps.{Step, is_step}
use Rattle.store_model.specs.declared.event.Event.{Event}
use Rattle.store_model.specs.declared.event.Event.TheVariants as event
use Rattle.disk_model.specs.declared.progress.Progress.TheVariants.{Idle, More}
use Rattle.store_model.specs.declared.event.Reply.{Reply}
use Rattle.store_model.specs.declared.event.Reply.TheVariants.{Folded, Refused, Stepped}
use Rattle.engine_invariant.specs.Idle.{IdlesExactly}
use Rattle.engine_invariant.specs.Progress.{FlushView, FlushesOn, HasPending, HasTrimmed, IsNotRefused, IsTrimming, NearsDurable}
use Rattle.engine_invariant.specs.States.{HiveView}

-- An engine at one moment: its machine; the changes before the machine's history, which are those that its journal
-- decoded to at the opening and those of each history folded since, and the number before the first of them; the durable content and what is under way of the journal and of each hive; how many steps of the
-- journal are left until some change is durable; each hive's flush; and how many device calls were made, and how many
-- of them failed.
pub record EngineView : Type 0 where
  pub machine : Machine
  pub base : ℕ
  pub opened : List Element
  pub journal : Choice (Content TimedOp)
  pub hives : List HiveView
  pub left : ℕ
  pub flushes : List FlushView
  pub clock : ℕ
  pub failures : ℕ

-- the changes before the history once this was answered, from those before it and the history as they were: a fold puts
-- the history behind the others
abbrev pub opened_after : Reply → List Element → List Element → List Element
opened_after (Folded number) opened accepted = opened ++ accepted
opened_after _ opened accepted = opened

-- An answer needs no device: it is to an event that makes no step; or it says that there is nothing to do; or it is a
-- refusal other than that the device failed.
abbrev pub NeedsNoDevice : Event → Reply → Type 0
NeedsNoDevice asked answer = (is_step asked ≡ false) ⊎ ((answer ≡ Stepped Idle) ⊎ ((why : Refusal) × (answer ≡ Refused why) × ¬ (why ≡ DiskFault)))

-- An engine answers an event, and then is in this state.
--
-- - `step`: it is a step of the machine.
-- - `later`, `one`: with at most one device call.
-- - `quiet`: with none, if the answer needs no device. So an event that accepts a change makes none.
-- - `failed`, `works`: that the device failed is answered only if it did, in this event; and at any other answer it
--   didn't.
-- - `idle`: a step is idle exactly if there is nothing to do, as long as the store isn't faulted.
-- - `nears_durable`: a step of the journal that isn't refused, if some change waits, brings it nearer to being durable.
-- - `begins_trim`, `ends_trim`: a step of a trim begins one, and the next step of the journal or of a trim ends it.
-- - `flushes`: a step of a hive's flush begins one, continues it, or ends it.
-- - `life`: the changes before the history stay, and a fold adds the history's to them.
-- - `journal_stays`, `hives_stay`: what an event doesn't step stays.
pub record EngineAnswers (asked : Event) (answer : Reply) (old new : EngineView) : Type 0 where
  pub step : Step old.machine asked answer new.machine
  pub later : old.clock ≤ new.clock
  pub one : new.clock ≤ old.clock + 1
  pub quiet : NeedsNoDevice asked answer → new.clock ≡ old.clock
  pub failed : answer ≡ Refused DiskFault → old.failures < new.failures
  pub works : ¬ (answer ≡ Refused DiskFault) → new.failures ≡ old.failures
  pub idle : old.machine.faulted ≡ false → IdlesExactly asked answer old.machine old.base old.opened old.journal old.hives
  pub nears_durable : asked ≡ event.JournalStep → IsNotRefused answer → HasPending old.machine → NearsDurable old.machine old.left new.machine new.left
  pub begins_trim : asked ≡ event.TrimStep → IsNotRefused answer → ¬ (answer ≡ Stepped Idle) → ¬ (IsTrimming old.journal)
      → (answer ≡ Stepped More) × BeginsTrim old.journal new.journal
  pub ends_trim : (asked ≡ event.JournalStep) ⊎ (asked ≡ event.TrimStep) → IsNotRefused answer → IsTrimming old.journal
      → HasTrimmed old.machine answer new.machine new.journal
  pub flushes : (i : ℕ) (was is : HiveView) (before after : FlushView) → asked ≡ event.FlusherStep i → IsNotRefused answer → ¬ (answer ≡ Stepped Idle)
      → slice_get old.hives i ≡ Some was → slice_get old.flushes i ≡ Some before → slice_get new.hives i ≡ Some is → slice_get new.flushes i ≡ Some after
      → FlushesOn old.machine.durable answer was is before after
  pub life : (new.base ≡ old.base) × (new.opened ≡ opened_after answer old.opened old.machine.accepted)
  pub journal_stays : ¬ (asked ≡ event.JournalStep) → ¬ (asked ≡ event.TrimStep) → (new.journal ≡ old.journal) × (new.left ≡ old.left)
  pub hives_stay : (i : ℕ) → ¬ (asked ≡ event.FlusherStep i)
      → (slice_get new.hives i ≡ slice_get old.hives i) × (slice_get new.flushes i ≡ slice_get old.flushes i)
