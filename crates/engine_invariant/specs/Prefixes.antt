-- What a crash leaves of an engine: the headline's words.
use Rattle.std.specs.Prelude.{◌≡◌, ℕ, ◌-◌, ◌<◌, ◌≤◌, List, length, take, slice_get, Some, ⊤}
use Rattle.refusals.specs.declared.limits.TheConstants.{GREATEST_NUMBER}
use Rattle.reg_tree.specs.Maps.{TreeMap}
use Rattle.reg_tree.specs.Sequences.{after_elements}
use Rattle.crash_model.specs.Promises.{Content}
use Rattle.crash_model.specs.Files.{DecodesBy, FilesRecover}
use Rattle.disk_model.specs.FileState.{FileState}
use Rattle.disk_model.specs.Crash.{LeavesHonest}
use Rattle.disk_model.specs.StoreFiles.{primary_file, log_file, journal_file}
use Rattle.change_codec.specs.ModelChanges.{TimedOp}
use Rattle.engine_invariant.specs.Rules.{rules}
use Rattle.commit_journal.specs.Encoding.{decoded}
use Rattle.commit_journal.specs.Store.{Store, encodings}
use Rattle.commit_journal.specs.OnDisk.{is_on}
use Rattle.commit_journal.specs.Journals.{encodings_of, journal_view}
use Rattle.commit_journal.specs.declared.journal.Journal.{Journal}
use Rattle.hive_flush.specs.Decoders.{HiveFilesHold}
use Rattle.hive_flush.specs.HiveStates.{FilesMatchHive, hive_number}
use Rattle.hive_flush.specs.HiveStates as states
use Rattle.hive_flush.specs.declared.hive.HiveFile.{HiveFile}
use Rattle.store_model.specs.Machine.{Machine, last_number}
use Rattle.engine_invariant.specs.States.{HiveView, tree_of}

-- bytes of the journal's file decode to this, in a store
abbrev pub JournalDecodesTo : Store → List ℕ → Content TimedOp → Type 0
JournalDecodesTo store = DecodesBy (decoded (encodings store))

-- a primary file and a log decode to this tree and number, in a store
abbrev pub Holds : Store → List ℕ → List ℕ → TreeMap × ℕ → Type 0
Holds store = HiveFilesHold store.id

-- The files of a store with `hives` hives recover a number and trees. The journal decodes to some content, and the
-- number is its last one, or else the greatest of a hive. Each hive's tree is the tree of its files with the operations
-- of the changes above its own number applied in order, each legal.
abbrev pub Recover : Store → ℕ → (ℕ → List ℕ) → ℕ → List TreeMap → Type 0
Recover store hives files number trees = FilesRecover (rules store.hives) (JournalDecodesTo store) (Holds store) GREATEST_NUMBER hives files number (tree_of trees)

-- the trees after the change numbered n
abbrev pub trees_after : Machine → ℕ → List TreeMap
trees_after machine n = after_elements machine.opened (take (n - machine.before) machine.accepted)

-- The files recover the trees after one number, which is not below the durable one and not above the last.
abbrev pub IsPrefix : Store → Machine → (ℕ → List ℕ) → Type 0
IsPrefix store machine files = (n : ℕ) × (machine.durable ≤ n) × (n ≤ last_number machine)
    × Recover store (length machine.opened) files n (trees_after machine n)

-- the primary file of one of the `hives` hives: the files of a store that have a first sector
abbrev pub IsPrimaryOf : ℕ → ℕ → Type 0
IsPrimaryOf hives f = (i : ℕ) × (i < hives) × (f ≡ primary_file i)

-- Whatever a crash at this moment leaves, with honest first sectors of the store's primary files, is a prefix of the
-- machine's changes.
abbrev pub IsSafeAt : Store → (ℕ → ℕ → FileState) → ℕ → Machine → Type 0
IsSafeAt store states moment machine = (files : ℕ → List ℕ) → LeavesHonest (IsPrimaryOf (length machine.opened)) (states moment) files → IsPrefix store machine files

-- the crash model's view of a hive
abbrev pub view_of : HiveFile → HiveView
view_of hive = record { files = states.file_choice hive; memory = states.memory_of hive }

-- a device call may be on any file
abbrev pub AnyFile : ℕ → Type 0
AnyFile f = ⊤

-- The journal and each hive are on the disk as they say.
pub record AreOnDisk (journal : Journal) (hives : List HiveFile) (state : ℕ → FileState) : Type 0 where
  pub decodes : is_on (encodings_of journal) (journal_view journal) (state journal_file)
  pub each : (i : ℕ) (hive : HiveFile) → slice_get hives i ≡ Some hive → FilesMatchHive hive (state (primary_file i)) (state (log_file i))

-- each hive has the number of its index, and is of the store
pub record ArePlaced (store : Store) (hives : List HiveFile) : Type 0 where
  pub place : (i : ℕ) (hive : HiveFile) → slice_get hives i ≡ Some hive → hive_number hive ≡ i
  pub owner : (i : ℕ) (hive : HiveFile) → slice_get hives i ≡ Some hive → states.store_of hive ≡ store.id
