-- Files that are imported, each as the hive of its index.
use Rattle.std.specs.Prelude.{◌≡◌, ℕ, List, [], ◌∷◌, ◌++◌, length, slice_get, Option, Some, Result, Ok, Err}
use Rattle.refusals.specs.declared.refusal.Refusal.{Refusal}
use Rattle.refusals.specs.declared.refusal.Refusal.TheVariants.{NoMemory}
use Rattle.reg_tree.specs.Fresh.{fresh_tree}
use Rattle.reg_tree.specs.Maps.{TreeMap}
use Rattle.disk_model.specs.FileState.{FileState}
use Rattle.commit_journal.specs.declared.store_layout.Layout.TheVariants.{WithOutcomes}
use Rattle.hive_file_reader.specs.Hives.{FileHoldsHive, IsEnoughOf}
use Rattle.recovery.specs.Created.{RecoversTrees, new_store}
use Rattle.recovery.specs.FileCopies.{AreRefusedFor, StoreIsCreatedFrom}

-- what an import shows: how many files it has taken, and their outcome, which is the first bytes of each, or a refusal
pub record Taken : Type 0 where
  pub count : ℕ
  pub outcome : Result (List (List ℕ)) Refusal

-- each bytes are the first of the file at its index, and enough to decide which hive it holds, if the file's bytes are
-- known; and there are as many as files
pub record AreFrontsOf (files : List (Option (List ℕ))) (fronts : List (List ℕ)) : Type 0 where
  pub many : length fronts ≡ length files
  pub enough : (i : ℕ) (file front : List ℕ) → slice_get files i ≡ Some (Some file) → slice_get fronts i ≡ Some front → IsEnoughOf front file

-- the outcome of files: their first bytes, or want of memory
abbrev pub IsOutcomeOfFiles : List (Option (List ℕ)) → Result (List (List ℕ)) Refusal → Type 0
IsOutcomeOfFiles files (Ok fronts) = AreFrontsOf files fronts
IsOutcomeOfFiles files (Err why) = why ≡ NoMemory

-- an import has taken just these files, in this order; a file whose bytes no contract knows has none here
pub record HasTaken (files : List (Option (List ℕ))) (taken : Taken) : Type 0 where
  pub many : taken.count ≡ length files
  pub tells : IsOutcomeOfFiles files taken.outcome

-- each tree is that of the file at its index, if the file's bytes are known; and there is one tree for each file
pub record AreHeldBy (files : List (Option (List ℕ))) (trees : List TreeMap) : Type 0 where
  pub many : length trees ≡ length files
  pub held : (i : ℕ) (file : List ℕ) (tree : TreeMap) → slice_get files i ≡ Some (Some file) → slice_get trees i ≡ Some tree → FileHoldsHive file tree

-- these may be the bytes of files: each are the bytes of the file at its index, if they are known
pub record MayBeBytesOf (files : List (Option (List ℕ))) (bytes : List (List ℕ)) : Type 0 where
  pub many : length bytes ≡ length files
  pub known : (i : ℕ) (file own : List ℕ) → slice_get files i ≡ Some (Some file) → slice_get bytes i ≡ Some own → own ≡ file

-- A store is durable on the disk under an id, made of files' hives, with these trees. Calls name these hives. Each hive is
-- a copy of its file: it has its bins data, its root and its minor version. The tree of a new hive follows them, for the
-- outcomes of commits. Whatever a crash leaves of the store's files, with honest first sectors, recovers all these trees
-- at number 0, as does what a read gives.
pub record IsImportedStore (id : List ℕ) (files : List (Option (List ℕ))) (trees : List TreeMap) (state : ℕ → FileState) : Type 0 where
  pub bytes : List (List ℕ)
  pub of_files : MayBeBytesOf files bytes
  pub made : StoreIsCreatedFrom id bytes trees state
  pub recovers : RecoversTrees (new_store id WithOutcomes (length trees)) 0 (trees ++ fresh_tree ∷ []) state

-- why no store is made of files, except for the device: a refusal of one of them, with the number of its index, if each
-- before it holds a hive; or want of memory
abbrev pub IsRefusedImport : List (Option (List ℕ)) → Refusal → Type 0
IsRefusedImport files why = (bytes : List (List ℕ)) × MayBeBytesOf files bytes × AreRefusedFor bytes why
