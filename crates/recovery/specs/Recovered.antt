-- What the files of a store recover.
use Rattle.std.specs.Prelude.{◌≡◌, ℕ, List, length}
use Rattle.refusals.specs.declared.refusal.Refusal.{Refusal}
use Rattle.refusals.specs.declared.refusal.Refusal.TheVariants as refusal
use Rattle.reg_tree.specs.Maps.{TreeMap}
use Rattle.disk_model.specs.FileState.{FileState}
use Rattle.commit_journal.specs.Store.{Store, IsStore, all_hives}
use Rattle.engine_invariant.specs.Prefixes.{Recover}
use Rattle.recovery.specs.Refused.{IsWrong}

-- Files are those of a store, and recover a number and trees: the journal's header names the store, with its layout and
-- the number of hives that calls name, and there is a tree for each hive.
pub record IsRecovered (files : ℕ → List ℕ) (store : Store) (number : ℕ) (trees : List TreeMap) : Type 0 where
  pub store_is : IsStore store
  pub many : length trees ≡ all_hives store
  pub recovers : Recover store (all_hives store) files number trees

-- the files are those of no store, or recover nothing
abbrev pub NothingRecovered : (ℕ → List ℕ) → Type 0
NothingRecovered files = (store : Store) (number : ℕ) (trees : List TreeMap) → IsRecovered files store number trees → ⊥

-- what a read gives of each file
abbrev pub seen_in : (ℕ → FileState) → ℕ → List ℕ
seen_in state f = (state f).seen

-- a refusal is one of files: of a hive with its number, of a version that isn't known, or of the journal
abbrev pub IsFileRefusal : Refusal → Type 0
IsFileRefusal (refusal.HiveDamaged hive cause) = Unit {0}
IsFileRefusal refusal.Unsupported = Unit {0}
IsFileRefusal refusal.JournalDamaged = Unit {0}
IsFileRefusal _ = ⊥

-- why files are refused as those of a store: the refusal is one of files, and they are wrong as it says, if the device
-- has answered as it should
abbrev pub IsNoStore : Type 0 → (ℕ → List ℕ) → Refusal → Type 0
IsNoStore faithful files why = IsFileRefusal why × (faithful → IsWrong files why)
