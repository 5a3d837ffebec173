-- The tree to which the journal leads one hive, before it is judged.
use Rattle.std.specs.Prelude.{◌≡◌, ◌⊎◌, ℕ, ◌<◌, List, Some}
use Rattle.refusals.specs.declared.refusal.Refusal.{Refusal}
use Rattle.refusals.specs.declared.refusal.Refusal.TheVariants.{JournalDamaged}
use Rattle.reg_tree.specs.Maps.{TreeMap}
use Rattle.crash_model.specs.Promises.{Content, top}
use Rattle.disk_model.specs.StoreFiles.{primary_file, log_file, journal_file}
use Rattle.change_codec.specs.ModelChanges.{TimedOp}
use Rattle.commit_journal.specs.Store.{Store, IsStore, IsNoJournal, all_hives}
use Rattle.commit_journal.specs.declared.scan.StoreHeader.{StoreHeader}
use Rattle.hive_files.specs.Frames.{RefusalHasCause}
use Rattle.hive_flush.specs.Decoders.{RefusalNamesHive}
use Rattle.engine_invariant.specs.Prefixes.{Holds, JournalDecodesTo}
use Rattle.recovery.specs.Reading.{replayed_on}
use Rattle.store_hive.specs.declared.held_tree.HeldTree.{HeldTree}
use Rattle.store_hive.specs.declared.led_tree.LedTree.{LedTree}

-- the store that a journal's header names
abbrev pub named_by : StoreHeader → Store
named_by owner = record { id = owner.id; hives = owner.hives; layout = owner.layout }

-- A hive is one of a store, and its files and the journal lead to this tree, from one of this number; and this is the
-- number of the last change.
pub record IsLed (files : ℕ → List ℕ) (store : Store) (hive : ℕ) (led : LedTree) : Type 0 where
  pub store_is : IsStore store
  pub there : hive < all_hives store
  pub journal : Content TimedOp
  pub decodes : JournalDecodesTo store (files journal_file) journal
  pub own : TreeMap
  pub holds : Holds store (files (primary_file hive)) (files (log_file hive)) (own, led.number)
  pub leads : replayed_on journal hive (own, led.number) ≡ Some led.tree
  pub last : led.last ≡ top 0 journal

-- the journal has these bytes, and the hive's files hold a tree and a number
pub record HoldsBeside (files : ℕ → List ℕ) (store : Store) (hive : ℕ) (journal : List ℕ) (held : HeldTree) : Type 0 where
  pub same : files journal_file ≡ journal
  pub holds : Holds store (files (primary_file hive)) (files (log_file hive)) (held.tree, held.number)

-- What is told of a hive that is refused: that refusal, and if it is one of the hive's files, the journal decodes to
-- changes; or a refusal of the journal.
abbrev pub TellsOfHive : Type 0 → Type 0 → Store → List ℕ → Refusal → Refusal → Type 0
TellsOfHive failed faithful store journal why told =
    ((told ≡ why) × ((i : ℕ) → RefusalNamesHive i why → (s : Content TimedOp) × (faithful → JournalDecodesTo store journal s)))
    ⊎ RefusalHasCause failed (λ damage. (damage ≡ JournalDamaged) × (faithful → IsNoJournal journal)) told
