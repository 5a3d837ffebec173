-- The files of a store as it is made.
use Rattle.std.specs.Prelude.{◌≡◌, ◌⊎◌, ◌<◌, ◌≤◌, ℕ, List, [], ◌∷◌, ◌++◌, length, slice_get, Some}
use Rattle.refusals.specs.declared.limits.TheConstants.{MOST_HIVES, MOST_WEIGHT}
use Rattle.refusals.specs.declared.refusal.Refusal.{Refusal}
use Rattle.refusals.specs.declared.refusal.Refusal.TheVariants.{NoMemory, TooLarge, Unsupported}
use Rattle.reg_tree.specs.Maps.{TreeMap, weight}
use Rattle.reg_tree.specs.Fresh.{fresh_tree}
use Rattle.disk_model.specs.Crash.{LeavesHonest}
use Rattle.disk_model.specs.FileState.{FileState, at_rest}
use Rattle.disk_model.specs.StoreFiles.{IsJournal, IsFileOfHive, primary_file, log_file, journal_file}
use Rattle.commit_journal.specs.Store.{Store, created_bytes, hives_in}
use Rattle.commit_journal.specs.declared.store_layout.Layout.{Layout}
use Rattle.commit_journal.specs.declared.store_layout.Layout.TheVariants.{HivesAlone, WithOutcomes}
use Rattle.hive_flush.specs.Creation.{AreCreated, AreCreatedFrom, IsImageOf, IsImageOfFile}
use Rattle.hive_flush.specs.Decoders.{HiveFilesHold}
use Rattle.hive_flush.specs.declared.image.HiveImage.{HiveImage}
use Rattle.engine_invariant.specs.Prefixes.{IsPrimaryOf}
use Rattle.recovery.specs.Reading.{IsOfOutcomes, IsRefusedAsOutcomes}
use Rattle.recovery.specs.Recovered.{IsRecovered, seen_in}

-- the store that is made under an id in a layout, and whose calls name so many hives
abbrev pub new_store : List ℕ → Layout → ℕ → Store
new_store id layout hives = record { id = id; hives = hives; layout = layout }

-- the trees of a store that is made of these in a layout: with outcomes the tree of a new hive follows them
abbrev pub trees_in : Layout → List TreeMap → List TreeMap
trees_in HivesAlone trees = trees
trees_in WithOutcomes trees = trees ++ fresh_tree ∷ []

-- The i-th tree is stored at this number in the files of hive i, and all of them are on the disk.
abbrev pub HivesAreMade : List ℕ → ℕ → List TreeMap → (ℕ → FileState) → Type 0
HivesAreMade id number trees state = (i : ℕ) (tree : TreeMap) → slice_get trees i ≡ Some tree → AreCreated id tree number (state (primary_file i)) (state (log_file i))

-- A store is made of trees in a layout, and calls name their hives: its journal has no change, each tree is stored at
-- number 0 in a hive's files, as is that of a new hive in the layout with outcomes, and all of them are on the disk.
pub record StoreIsCreated (id : List ℕ) (layout : Layout) (trees : List TreeMap) (state : ℕ → FileState) : Type 0 where
  pub journal : state journal_file ≡ at_rest (created_bytes (new_store id layout (length trees)))
  pub hives : HivesAreMade id 0 (trees_in layout trees) state

-- A store is made as of a number: its journal has no change, each tree is stored at the number in a hive's files, and all
-- of them are on the disk.
pub record StoreIsCopied (store : Store) (number : ℕ) (trees : List TreeMap) (state : ℕ → FileState) : Type 0 where
  pub journal : state journal_file ≡ at_rest (created_bytes store)
  pub hives : HivesAreMade store.id number trees state

-- A hive's two files hold a tree at a number, as a hive of a store, and all of both is on the disk.
pub record HiveIsDurable (id : List ℕ) (number : ℕ) (tree : TreeMap) (primary log : FileState) : Type 0 where
  pub primary_rests : primary ≡ at_rest primary.synced
  pub log_rests : log ≡ at_rest log.synced
  pub holds : HiveFilesHold id primary.synced log.synced (tree, number)

-- the files of hive i hold the i-th tree at this number, and all of them is on the disk
abbrev pub HivesAreDurable : List ℕ → ℕ → List TreeMap → (ℕ → FileState) → Type 0
HivesAreDurable id number trees state = (i : ℕ) (tree : TreeMap) → slice_get trees i ≡ Some tree → HiveIsDurable id number tree (state (primary_file i)) (state (log_file i))

-- A store of these trees is durable at a number: whatever a crash leaves of its files, with honest first sectors of its
-- primary files, recovers the trees at the number, as does what a read gives.
pub record RecoversTrees (store : Store) (number : ℕ) (trees : List TreeMap) (state : ℕ → FileState) : Type 0 where
  pub left : (files : ℕ → List ℕ) → LeavesHonest (IsPrimaryOf (length trees)) state files → IsRecovered files store number trees
  pub seen : IsRecovered (seen_in state) store number trees

-- one of the files of the `hives` hives, and of a store of them
abbrev pub IsOfHives : ℕ → ℕ → Type 0
IsOfHives hives f = (i : ℕ) × (i < hives) × IsFileOfHive i f

abbrev pub IsOfStore : ℕ → ℕ → Type 0
IsOfStore hives f = IsJournal f ⊎ IsOfHives hives f

-- some tree is over the weight
abbrev pub SomeIsHeavy : List TreeMap → Type 0
SomeIsHeavy trees = (i : ℕ) × (tree : TreeMap) × (slice_get trees i ≡ Some tree) × (MOST_WEIGHT < weight tree)

-- why no store is made of trees, if the device isn't the reason
abbrev pub IsRefusedFor : List TreeMap → Refusal → Type 0
IsRefusedFor trees why = (why ≡ NoMemory) ⊎ ((why ≡ TooLarge) × SomeIsHeavy trees)

-- the tree after the first `named` ones, if there is one, is of outcomes up to a number
abbrev pub HasOutcomes : ℕ → ℕ → List TreeMap → Type 0
HasOutcomes number named trees = (tree : TreeMap) → slice_get trees named ≡ Some tree → IsOfOutcomes number tree

-- it is none, and the refusal says so of the hive that it was to be
abbrev pub LacksOutcomes : ℕ → ℕ → List TreeMap → Refusal → Type 0
LacksOutcomes number named trees why = (tree : TreeMap) × (slice_get trees named ≡ Some tree) × IsRefusedAsOutcomes number named tree why

-- a store in a layout may have so many trees, of which calls name the first
pub record FitsStore (layout : Layout) (named : ℕ) (trees : List TreeMap) : Type 0 where
  pub some : 1 ≤ named
  pub few : named ≤ MOST_HIVES
  pub many : length trees ≡ hives_in layout named

-- Why no store is made of trees as of a number, if the device isn't the reason: no store has so many; or one is over the
-- weight, or the last one isn't of outcomes, or there is no memory.
abbrev pub IsNoCopy : Layout → ℕ → ℕ → List TreeMap → Refusal → Type 0
IsNoCopy layout named number trees why =
    ((why ≡ Unsupported) × ¬ (FitsStore layout named trees)) ⊎ (IsRefusedFor trees why ⊎ LacksOutcomes number named trees why)

-- the images are those of the trees at a number, each of the tree at its index, for a store
abbrev pub AreImagesOf : List ℕ → ℕ → List TreeMap → List HiveImage → Type 0
AreImagesOf id number trees images = (i : ℕ) (image : HiveImage) → slice_get images i ≡ Some image → (tree : TreeMap) → slice_get trees i ≡ Some tree → IsImageOf id tree number image

-- The images of a store's hives in a layout, if the first are these: with outcomes that of a new hive follows them.
abbrev pub AreImagesIn : List ℕ → Layout → List HiveImage → List HiveImage → Type 0
AreImagesIn id HivesAlone images all = all ≡ images
AreImagesIn id WithOutcomes images all = (image : HiveImage) × (all ≡ images ++ image ∷ []) × IsImageOf id fresh_tree 0 image

-- a hive's two files are made of an image, be it one of a tree or of a file
pub record IsWritten (image : HiveImage) (primary log : FileState) : Type 0 where
  pub created : (store : List ℕ) (tree : TreeMap) (number : ℕ) → IsImageOf store tree number image → AreCreated store tree number primary log
  pub copied : (store file : List ℕ) (tree : TreeMap) → IsImageOfFile store file tree image → AreCreatedFrom store file tree primary log

-- the files of each hive are made of the image at its index
abbrev pub AreWritten : List HiveImage → (ℕ → FileState) → Type 0
AreWritten images state = (i : ℕ) (image : HiveImage) → slice_get images i ≡ Some image → IsWritten image (state (primary_file i)) (state (log_file i))
