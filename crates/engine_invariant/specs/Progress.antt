-- How far steps come: how many are left until something is durable or flushed, and what a trim frees.
use Rattle.std.specs.Prelude.{◌≡◌, ◌⊎◌, ℕ, ◌+◌, ◌-◌, ◌*◌, ◌<◌, ◌≤◌, Some, None}
use Rattle.crash_model.specs.Promises.{Choice, Content, nothing, settled, under_way}
use Rattle.change_codec.specs.ModelChanges.{TimedOp}
use Rattle.store_model.specs.Machine.{Machine, last_number}
use Rattle.store_model.specs.Steps.{EndsTrim, Step}
use Rattle.store_model.specs.declared.event.Event.TheVariants.{JournalStep}
use Rattle.disk_model.specs.declared.progress.Progress.{Progress}
use Rattle.disk_model.specs.declared.progress.Progress.TheVariants.{Done, More}
use Rattle.store_model.specs.declared.event.Reply.{Reply}
use Rattle.store_model.specs.declared.event.Reply.TheVariants.{Stepped}
use Rattle.hive_flush.specs.HiveStates.{dirty_pages, steps_left}
use Rattle.hive_flush.specs.declared.hive.HiveFile.{HiveFile}
use Rattle.engine_invariant.specs.States.{HiveView}

-- A step was made: it wasn't refused.
abbrev pub IsNotRefused : Reply → Type 0
IsNotRefused answer = (progress : Progress) × (answer ≡ Stepped progress)

-- Some accepted change isn't durable yet.
abbrev pub HasPending : Machine → Type 0
HasPending machine = machine.durable < last_number machine

-- How many steps of the journal, none of them refused, make all accepted changes durable, if `left` are left until the
-- next of them are.
abbrev pub steps_to_all : Machine → ℕ → ℕ
steps_to_all machine left = 5 * (last_number machine - machine.durable) + left

-- A step of the journal with at most five left makes changes durable, or leaves fewer; so fewer are left until all are
-- durable.
pub record NearsDurable (old : Machine) (left : ℕ) (new : Machine) (left_then : ℕ) : Type 0 where
  pub few : left ≤ 5
  pub nearer : (old.durable < new.durable) ⊎ (left_then < left)
  pub falls : steps_to_all new left_then < steps_to_all old left

-- A step of the journal that was made, as its reply says.
pub record IsJournalStep (old : Machine) (left : ℕ) (new : Machine) (left_then : ℕ) : Type 0 where
  pub progress : Progress
  pub step : Step old JournalStep (Stepped progress) new
  pub nears_durable : HasPending old → NearsDurable old left new left_then

-- A trim is under way: the content without elements is under way to the journal.
abbrev pub IsTrimming : Choice (Content TimedOp) → Type 0
IsTrimming journal = journal.next ≡ Some nothing

-- A trim is done: the journal decodes to no element, and the room is that of the changes that are not durable.
pub record HasTrimmed (old : Machine) (answer : Reply) (new : Machine) (journal : Choice (Content TimedOp)) : Type 0 where
  pub told : answer ≡ Stepped Done
  pub frees : EndsTrim old Done new
  pub decodes : journal ≡ settled nothing

-- the flush of a hive: how many of its calls are left, or of a whole one if none is under way; and how many pages it
-- writes
pub record FlushView : Type 0 where
  pub left : ℕ
  pub pages : ℕ

abbrev pub flush_of : HiveFile → FlushView
flush_of hive = record { left = steps_left hive; pages = dirty_pages hive }

-- A flush begins: what the hive has in memory, up to a number, is under way to its files.
pub record BeginsFlush (number : ℕ) (answer : Reply) (old new : HiveView) (after : FlushView) : Type 0 where
  pub rests : old.files.next ≡ None
  pub told : answer ≡ Stepped More
  pub files : new.files ≡ under_way old.files.now new.memory
  pub takes : new.memory.1 ≡ number
  pub few : after.left < 2 * after.pages + 7
  pub some : 0 < after.left

-- A flush continues: fewer of its calls are left.
pub record GoesOnFlushing (answer : Reply) (old new : HiveView) (before after : FlushView) : Type 0 where
  pub was : old.files.next ≡ Some old.memory
  pub told : answer ≡ Stepped More
  pub hive : new ≡ old
  pub pages : after.pages ≡ before.pages
  pub falls : after.left < before.left
  pub some : 0 < after.left

-- A flush is done: what the hive has in memory is durable in its files.
pub record EndsFlush (answer : Reply) (old new : HiveView) : Type 0 where
  pub was : old.files.next ≡ Some old.memory
  pub told : answer ≡ Stepped Done
  pub files : new.files ≡ settled old.memory
  pub memory : new.memory ≡ old.memory

-- A step of a hive's flush that has something to do: it begins a flush of what is durable up to a number, continues it,
-- or ends it.
abbrev pub FlushesOn : ℕ → Reply → HiveView → HiveView → FlushView → FlushView → Type 0
FlushesOn number answer old new before after =
    BeginsFlush number answer old new after ⊎ (GoesOnFlushing answer old new before after ⊎ EndsFlush answer old new)

-- Of some steps the first began a flush, and one of the first `count` ended it: what the hive had in memory then is
-- durable in its files. These are the answers, and the hive before each step.
abbrev pub HasFlushed : ℕ → (ℕ → Reply) → (ℕ → HiveView) → Type 0
HasFlushed count answers hives = (k : ℕ) × (k < count) × (answers k ≡ Stepped Done) × ((hives (k + 1)).files ≡ settled (hives 1).memory)
