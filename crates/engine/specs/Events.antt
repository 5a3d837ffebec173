-- What an event makes of an engine's parts, whichever event it is.
use Rattle.std.specs.Prelude.{◌≡◌, ◌⊎◌, ℕ, ◌<◌, map, slice_get, Some}
use Rattle.refusals.specs.declared.refusal.Refusal.TheVariants.{DiskFault}
use Rattle.disk_model.specs.Call.{OneCall}
use Rattle.disk_model.specs.FileState.{FileState}
use Rattle.store_model.specs.Steps.{Step}
use Rattle.store_model.specs.declared.event.Event.{Event}
use Rattle.store_model.specs.declared.event.Event.TheVariants as events
use Rattle.store_model.specs.declared.event.Reply.{Reply}
use Rattle.disk_model.specs.declared.progress.Progress.TheVariants.{Idle, More}
use Rattle.store_model.specs.declared.event.Reply.TheVariants.{Refused, Stepped}
use Rattle.crash_model.specs.Promises.{BeginsTrim}
use Rattle.engine.specs.EarlierChanges.{changes_before}
use Rattle.commit_journal.specs.Journals.{choice_of, steps_left, store_of}
use Rattle.hive_flush.specs.declared.hive.HiveFile.{HiveFile}
use Rattle.engine_invariant.specs.Engines.{EngineView, NeedsNoDevice, opened_after}
use Rattle.engine_invariant.specs.Prefixes.{AnyFile, AreOnDisk, view_of}
use Rattle.engine_invariant.specs.Progress.{FlushesOn, flush_of, HasPending, HasTrimmed, IsNotRefused, IsTrimming, NearsDurable}
use Rattle.engine.specs.Parts.{IsSound}
use Rattle.engine.specs.declared.parts.Parts.{Parts}

-- an engine as its parts show it, over a disk of this clock and these failures
abbrev pub parts_view : {D : Type 0} → (D → ℕ) → (D → ℕ) → Parts D → EngineView
parts_view clock failures parts = record {
  machine = parts.store.machine;
  base = parts.base;
  opened = changes_before parts.earlier;
  journal = choice_of parts.journal;
  hives = map view_of parts.hives.items;
  left = steps_left parts.journal;
  flushes = map flush_of parts.hives.items;
  clock = clock parts.disk;
  failures = failures parts.disk;
}

-- Over a disk of these states, this clock and these failures, the parts answer an event. It is a step of the machine,
-- with at most one device call. If the parts were sound, and on the disk as they say, and the disk is faithful, they
-- stay so. The files are of the same store. The device has failed if the answer says so, and at no other answer. The
-- changes before the history stay, and a fold puts the history behind them. The journal changes only in a step of it or of a trim, and a hive only
-- in a step of its flush. The disk stays if the answer needs no device.
pub record PartsStep {D : Type 0} (states : D → ℕ → ℕ → FileState) (clock failures : D → ℕ) (is_faithful : D → Type 0)
    (event : Event) (answer : Reply) (old new : Parts D) : Type 0 where
  pub step : Step old.store.machine event answer new.store.machine
  pub sound : IsSound new
  pub on_disk : is_faithful new.disk → AreOnDisk old.journal old.hives.items (states old.disk (clock old.disk))
      → AreOnDisk new.journal new.hives.items (states new.disk (clock new.disk))
  pub store : store_of new.journal ≡ store_of old.journal
  pub call : OneCall AnyFile (states old.disk) (states new.disk) (clock old.disk) (clock new.disk)
  pub quiet : NeedsNoDevice event answer → new.disk ≡ old.disk
  pub failed : answer ≡ Refused DiskFault → failures old.disk < failures new.disk
  pub works : ¬ (answer ≡ Refused DiskFault) → failures new.disk ≡ failures old.disk
  pub faithful : is_faithful new.disk → is_faithful old.disk
  pub life : (new.base ≡ old.base) × (changes_before new.earlier ≡ opened_after answer (changes_before old.earlier) old.store.machine.accepted)
  pub journal_stays : ¬ (event ≡ events.JournalStep) → ¬ (event ≡ events.TrimStep) → new.journal ≡ old.journal
  pub hives_stay : (i : ℕ) → ¬ (event ≡ events.FlusherStep i) → slice_get new.hives.items i ≡ slice_get old.hives.items i

-- How far a step that isn't refused brings an engine's parts. A step of the journal brings what waits nearer to being
-- durable. A step of a trim begins one, if none is under way and there is something to do; and the next step of either
-- ends it. A step of a hive's flush begins a flush of what is durable, continues it, or ends it.
pub record StepAdvances {D : Type 0} (event : Event) (answer : Reply) (old new : Parts D) : Type 0 where
  pub nears_durable : event ≡ events.JournalStep → IsNotRefused answer → HasPending old.store.machine
      → NearsDurable old.store.machine (steps_left old.journal) new.store.machine (steps_left new.journal)
  pub begins_trim : event ≡ events.TrimStep → IsNotRefused answer → ¬ (answer ≡ Stepped Idle) → ¬ (IsTrimming (choice_of old.journal))
      → (answer ≡ Stepped More) × BeginsTrim (choice_of old.journal) (choice_of new.journal)
  pub ends_trim : (event ≡ events.JournalStep) ⊎ (event ≡ events.TrimStep) → IsNotRefused answer → IsTrimming (choice_of old.journal)
      → HasTrimmed old.store.machine answer new.store.machine (choice_of new.journal)
  pub flushes : (i : ℕ) (was is : HiveFile) → event ≡ events.FlusherStep i → IsNotRefused answer → ¬ (answer ≡ Stepped Idle) → slice_get old.hives.items i ≡ Some was
      → slice_get new.hives.items i ≡ Some is → FlushesOn old.store.machine.durable answer (view_of was) (view_of is) (flush_of was) (flush_of is)
