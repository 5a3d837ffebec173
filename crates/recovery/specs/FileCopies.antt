-- The files of a store as it is made of hives' files.
use Rattle.std.specs.Prelude.{◌≡◌, ◌⊎◌, ◌<◌, ℕ, List, length, slice_get, Some}
use Rattle.refusals.specs.declared.refusal.Refusal.{Refusal}
use Rattle.refusals.specs.declared.refusal.Refusal.TheVariants.{NoMemory}
use Rattle.reg_tree.specs.Maps.{TreeMap}
use Rattle.reg_tree.specs.Fresh.{fresh_tree}
use Rattle.disk_model.specs.FileState.{FileState, at_rest}
use Rattle.disk_model.specs.StoreFiles.{primary_file, log_file, journal_file}
use Rattle.commit_journal.specs.Store.{created_bytes}
use Rattle.commit_journal.specs.declared.store_layout.Layout.TheVariants.{WithOutcomes}
use Rattle.hive_file_reader.specs.Hives.{FileHoldsHive}
use Rattle.hive_file_reader.specs.Readings.{FileRefusedAs}
use Rattle.hive_flush.specs.Creation.{AreCreated, AreCreatedFrom, IsImageOfFile}
use Rattle.hive_flush.specs.declared.image.HiveImage.{HiveImage}
use Rattle.recovery.specs.Created.{new_store}

-- The hive of the i-th file is stored at number 0 in the files of hive i, with the i-th tree, which the file holds, and
-- all of it is on the disk: bins data, root and minor version are the file's.
abbrev pub HivesAreCopied : List ℕ → List (List ℕ) → List TreeMap → (ℕ → FileState) → Type 0
HivesAreCopied id files trees state = (i : ℕ) (file : List ℕ) (tree : TreeMap) → slice_get files i ≡ Some file → slice_get trees i ≡ Some tree
    → AreCreatedFrom id file tree (state (primary_file i)) (state (log_file i))

-- the files hold the trees, each the tree at its index
pub record FilesHoldTrees (files : List (List ℕ)) (trees : List TreeMap) : Type 0 where
  pub many : length trees ≡ length files
  pub held : (i : ℕ) (file : List ℕ) (tree : TreeMap) → slice_get files i ≡ Some file → slice_get trees i ≡ Some tree → FileHoldsHive file tree

-- A store is made of hives' files, which hold these trees, and calls name their hives: its journal has no change, each
-- hive is a copy of its file at number 0, the tree of a new hive is stored at number 0 after them, and all of them are
-- on the disk.
pub record StoreIsCreatedFrom (id : List ℕ) (files : List (List ℕ)) (trees : List TreeMap) (state : ℕ → FileState) : Type 0 where
  pub journal : state journal_file ≡ at_rest (created_bytes (new_store id WithOutcomes (length trees)))
  pub hives : HivesAreCopied id files trees state
  pub outcomes : AreCreated id fresh_tree 0 (state (primary_file (length trees))) (state (log_file (length trees)))

-- A refusal is of one of the files, with the number of its index. Each file before it holds a hive.
pub record IsRefusalOfFile (files : List (List ℕ)) (why : Refusal) : Type 0 where
  pub index : ℕ
  pub file : List ℕ
  pub at : slice_get files index ≡ Some file
  pub refused : FileRefusedAs index file why
  pub before : (i : ℕ) (other : List ℕ) → i < index → slice_get files i ≡ Some other → (tree : TreeMap) × FileHoldsHive other tree

-- why no store is made of files, if the device isn't the reason: one of them is refused; or want of memory
abbrev pub AreRefusedFor : List (List ℕ) → Refusal → Type 0
AreRefusedFor files why = (why ≡ NoMemory) ⊎ IsRefusalOfFile files why

-- The images are those of the files, each of the file at its index, for a store. Each has the tree that its file holds.
pub record AreImagesOfFiles (id : List ℕ) (files : List (List ℕ)) (images : List HiveImage) : Type 0 where
  pub trees : List TreeMap
  pub hold : FilesHoldTrees files trees
  pub each : (i : ℕ) (image : HiveImage) (file : List ℕ) (tree : TreeMap) → slice_get images i ≡ Some image → slice_get files i ≡ Some file
      → slice_get trees i ≡ Some tree → IsImageOfFile id file tree image
