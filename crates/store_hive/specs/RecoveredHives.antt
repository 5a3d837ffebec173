-- What the files of a store recover of one hive.
use Rattle.std.specs.Prelude.{◌≡◌, ℕ, ◌<◌, ◌≤◌, List, Some, true}
use Rattle.refusals.specs.declared.limits.TheConstants.{GREATEST_NUMBER}
use Rattle.reg_tree.specs.Maps.{TreeMap}
use Rattle.crash_model.specs.Promises.{Content, top}
use Rattle.disk_model.specs.StoreFiles.{primary_file, log_file, journal_file}
use Rattle.change_codec.specs.ModelChanges.{TimedOp}
use Rattle.commit_journal.specs.Store.{Store, IsStore, all_hives}
use Rattle.commit_outcomes.specs.Trees.{are_outcomes}
use Rattle.engine_invariant.specs.Prefixes.{Holds, JournalDecodesTo}
use Rattle.recovery.specs.Reading.{replayed_on}

-- Files recover a tree of one hive of a store. The journal is of that store and decodes to changes. The hive's two files
-- hold a tree and a number in that store, and the number is not above that of the last change; if there is no change, not
-- above the greatest number. The changes above the hive's number lead from the tree in its files to the tree, each legal
-- in its turn. The tree of a hive that calls don't name is of outcomes of commits up to the number of the last change; if
-- there is no change, up to the greatest number. No file of another hive is spoken of.
pub record RecoversHive (files : ℕ → List ℕ) (store : Store) (hive : ℕ) (tree : TreeMap) : Type 0 where
  pub store_is : IsStore store
  pub there : hive < all_hives store
  pub journal : Content TimedOp
  pub decodes : JournalDecodesTo store (files journal_file) journal
  pub held : TreeMap × ℕ
  pub holds : Holds store (files (primary_file hive)) (files (log_file hive)) held
  pub not_above : held.1 ≤ top GREATEST_NUMBER journal
  pub leads : replayed_on journal hive held ≡ Some tree
  pub outcomes : store.hives ≤ hive → are_outcomes (top GREATEST_NUMBER journal) tree ≡ true
