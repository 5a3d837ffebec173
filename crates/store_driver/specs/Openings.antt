-- The opening of the store that is on a disk, and what is left of it.
use Rattle.std.specs.Prelude.{◌≡◌, ◌⊎◌, ℕ, ◌+◌, ◌<◌, true, false, List, length, [], ◌∷◌}
use Rattle.refusals.specs.declared.refusal.Refusal.{Refusal}
use Rattle.refusals.specs.declared.refusal.Refusal.TheVariants.{NoMemory, DiskFault}
use Rattle.reg_tree.specs.Maps.{TreeMap}
use Rattle.crash_model.specs.Promises.{Content}
use Rattle.change_codec.specs.ModelChanges.{TimedOp}
use Rattle.commit_journal.specs.Store.{Store, all_hives, room_of}
use Rattle.store_model.specs.Invariant.{InvariantHolds}
use Rattle.store_model.specs.Machine.{Machine, bounds_for, opened_machine}
use Rattle.commit_journal.specs.Journals.{choice_of}
use Rattle.recovery.specs.Recovered.{IsNoStore, IsRecovered, seen_in}
use Rattle.recovery.specs.Shown.{Shown}
use Rattle.disk_model.specs.Crash.{LeavesHonest}
use Rattle.disk_model.specs.FileState.{FileState}
use Rattle.disk_model.specs.StoreFiles.{journal_file}
use Rattle.engine_invariant.specs.Prefixes.{IsPrefix, IsPrimaryOf, IsSafeAt, JournalDecodesTo}
use Rattle.engine.specs.Lives.{ReachedFromOpening, IsLife, IsSafe, Life, ReadsSafely, end_of, faulted_in}

-- the machine of a store whose calls name this many hives, which was opened at a number and trees, whose journal takes
-- `room` bytes, with these sessions open
abbrev pub BeginsAt : ℕ → ℕ → List TreeMap → ℕ → List ℕ → Machine → Type 0
BeginsAt hives number trees room sessions machine =
    machine ≡ record (opened_machine (bounds_for hives) trees number [] 0) { room = room; sessions = sessions }

-- session 0 alone
abbrev pub session_0 : List ℕ
session_0 = 0 ∷ []

-- the room that the journal of these files takes, by what it decodes to
abbrev pub IsRoomOf : (ℕ → List ℕ) → Store → ℕ → Type 0
IsRoomOf files store room = (journal : Content TimedOp) → JournalDecodesTo store (files journal_file) journal → room ≡ 65 + room_of journal.elements

-- the room that the journal of an opened store takes
abbrev pub room_in : {D : Type 0} → Shown D → ℕ
room_in opened = 65 + room_of (choice_of opened.found.journal).now.elements

-- A store was opened on these files, with these sessions open. The machine keeps what each of its steps keeps. If the
-- device has answered as it should, it begins at the number and the trees that they recover, and with the room that their
-- journal takes.
pub record IsOpenedOn (faithful : Type 0) (files : ℕ → List ℕ) (store : Store) (number : ℕ) (sessions : List ℕ) (machine : Machine) : Type 0 where
  pub trees : List TreeMap
  pub room : ℕ
  pub begins : BeginsAt store.hives number trees room sessions machine
  pub kept : InvariantHolds machine
  pub recovered : faithful → IsRecovered files store number trees
  pub room_is : faithful → IsRoomOf files store room

-- Why no store was opened on these files: memory was lacking, the device has failed, or they recover nothing.
abbrev pub MayNotOpen : Type 0 → Type 0 → (ℕ → List ℕ) → Refusal → Type 0
MayNotOpen failed faithful files why = (why ≡ NoMemory) ⊎ (((why ≡ DiskFault) × failed) ⊎ IsNoStore faithful files why)

-- whatever a crash leaves of the files, with honest first sectors, recovers a number and trees of a store
abbrev pub CrashesRecover : Store → ℕ → List TreeMap → (ℕ → FileState) → Type 0
CrashesRecover store number trees state = (files : ℕ → List ℕ) → LeavesHonest (IsPrimaryOf (all_hives store)) state files → IsRecovered files store number trees

-- From a machine on: it is faulted, or the failures of the device rise.
abbrev pub HasFailedSince : Machine → ℕ → ℕ → Type 0
HasFailedSince machine before after = (machine.faulted ≡ true) ⊎ (before < after)

-- If a disk that has these states is faithful, whatever a crash leaves of it at its last moment recovers one number and
-- the trees after the accepted changes up to it. The number is not below the machine's durable one. What a read gives
-- recovers such a number too, unless the device has failed.
abbrev pub LeavesPrefix : Type 0 → (ℕ → ℕ → FileState) → ℕ → Store → Machine → Type 0
LeavesPrefix faithful states clock store machine = faithful → IsSafeAt store states clock machine × (machine.faulted ≡ false → IsPrefix store machine (seen_in (states clock)))

-- A machine has reached this state on the files of a store, and is faulted only if the device has failed. Whatever a
-- crash leaves of these files is a prefix of its changes, and so is what a read gives unless it is faulted.
pub record LifeReaches (failed : Type 0) (store : Store) (last : Machine) (end : ℕ → FileState) : Type 0 where
  pub safe : IsSafe store last end
  pub reads : last.faulted ≡ false → ReadsSafely (length last.opened) end
  pub why : last.faulted ≡ true → failed

-- Since a store was opened at a number and trees, a machine has reached such a state.
abbrev pub HasLived : Type 0 → Store → ℕ → List TreeMap → (ℕ → FileState) → Type 0
HasLived failed store number trees end = (last : Machine) × ReachedFromOpening store number trees last × LifeReaches failed store last end

-- What is left of files is what a life of a store leaves, if the device has answered as it should. Each file is as it
-- was or synced. Or what the files recover was opened, and whatever a crash leaves then is a prefix of what was
-- accepted since. The life is a faulted one only if the device has failed.
abbrev pub LeavesLife : Type 0 → Type 0 → (ℕ → FileState) → (ℕ → FileState) → Type 0
LeavesLife failed faithful state end = faithful → (store : Store) × (life : Life) × IsLife store state life × (end_of life ≡ end) × (faulted_in life ≡ true → failed)
