-- What is read of a store's files, before it is judged.
use Rattle.std.specs.Prelude.{◌≡◌, ◌⊎◌, true, false, ℕ, ◌<◌, ◌≤◌, List, [], ◌∷◌, length, map, max, replicate, slice_get, Option, Some, None}
use Rattle.std.specs.List.{AllByRecursion}
use Rattle.refusals.specs.declared.refusal.Cause.TheVariants.{BadStore}
use Rattle.refusals.specs.declared.refusal.Refusal.{Refusal}
use Rattle.refusals.specs.declared.refusal.Refusal.TheVariants.{HiveDamaged}
use Rattle.refusals.specs.declared.limits.TheConstants.{GREATEST_NUMBER}
use Rattle.reg_tree.specs.Maps.{TreeMap}
use Rattle.reg_tree.specs.Sequences.{AreTrees}
use Rattle.reg_tree.specs.declared.element.Element.{Element}
use Rattle.crash_model.specs.Changes.{ops_on, replay}
use Rattle.crash_model.specs.Promises.{Content, settled, top}
use Rattle.crash_model.specs.Recovery.{above}
use Rattle.disk_model.specs.FileState.{FileState}
use Rattle.disk_model.specs.StoreFiles.{primary_file, log_file, journal_file}
use Rattle.change_codec.specs.ModelChanges.{TimedOp, tree_rules, timed_elements}
use Rattle.change_codec.specs.Encoding.{Fits}
use Rattle.commit_journal.specs.Encoding.{decoded}
use Rattle.commit_journal.specs.Store.{Store, IsStore, all_hives, encodings}
use Rattle.commit_journal.specs.Numbered.{numbered}
use Rattle.commit_journal.specs.OnDisk.{is_on}
use Rattle.commit_journal.specs.Journals.{changes_of, choice_of, store_of, encodings_of, journal_view}
use Rattle.commit_journal.specs.declared.journal.Journal.{Journal}
use Rattle.commit_outcomes.specs.Commits.{Commit, AreUpTo}
use Rattle.commit_outcomes.specs.Trees.{HasCommits, are_outcomes}
use Rattle.recovery.specs.Invariant.{own_numbers}
use Rattle.recovery.specs.Retained.{numbered_changes}
use Rattle.recovery.specs.Replays.{Replays}
use Rattle.recovery.specs.declared.replay.Replay.{Replay}
use Rattle.disk_model.specs.ReadOnly.{IsSyncedOrSame}
use Rattle.hive_flush.specs.Decoders.{HiveFilesHold, RefusesHiveFiles}
use Rattle.hive_flush.specs.HiveStates.{IsBroken, FilesMatchHive, file_choice, memory_of, hive_number}
use Rattle.hive_flush.specs.HiveStates as states
use Rattle.hive_flush.specs.declared.hive.HiveFile.{HiveFile}

-- A hive is opened as the i-th of a store: nothing is under way, and the device hasn't failed in a step of it. It has
-- what its files decoded to at one moment, and they are as it says at a later one.
pub record IsOpened (faithful : Type 0) (store : List ℕ) (then now : ℕ → FileState) (i : ℕ) (hive : HiveFile) : Type 0 where
  pub rests : file_choice hive ≡ settled (memory_of hive)
  pub place : hive_number hive ≡ i
  pub owner : states.store_of hive ≡ store
  pub works : ¬ (IsBroken hive)
  pub held : faithful → HiveFilesHold store (then (primary_file i)).seen (then (log_file i)).seen (memory_of hive)
  pub on : faithful → FilesMatchHive hive (now (primary_file i)) (now (log_file i))

-- The first hives of a store are opened, as many as there are in the list. No file was written to meanwhile, and the
-- journal's file was not even synced.
pub record AreOpened (faithful : Type 0) (store : List ℕ) (then now : ℕ → FileState) (hives : List HiveFile) : Type 0 where
  pub each : (i : ℕ) (hive : HiveFile) → slice_get hives i ≡ Some hive → IsOpened faithful store then now i hive
  pub files : faithful → (f : ℕ) → IsSyncedOrSame (then f) (now f)
  pub journal : now journal_file ≡ then journal_file

-- a refusal names one of the `count` hives, by its number, or a version that isn't known; and that hive's files decode
-- to nothing for the reported cause, if the device has answered as it should
abbrev pub IsNoHive : Type 0 → List ℕ → ℕ → (ℕ → FileState) → Refusal → Type 0
IsNoHive faithful store count state why = (i : ℕ) × (i < count)
    × RefusesHiveFiles faithful i store (state (primary_file i)).seen (state (log_file i)).seen why

-- A journal and hives, all of one store and with nothing under way; the journal decodes to these changes, each of which
-- is a change on the store's hives.
pub record AreAtRest (journal : Journal) (below : ℕ) (elements : List Element) (hives : List HiveFile) : Type 0 where
  pub store : IsStore (store_of journal)
  pub choice : choice_of journal ≡ settled (record { below = below; elements = timed_elements elements })
  pub fit : AllByRecursion (Fits (all_hives (store_of journal))) elements
  pub numbers : top 0 (choice_of journal).now ≤ GREATEST_NUMBER
  pub many : length hives ≡ all_hives (store_of journal)
  pub rest : (i : ℕ) (hive : HiveFile) → slice_get hives i ≡ Some hive → file_choice hive ≡ settled (memory_of hive)
  pub place : (i : ℕ) (hive : HiveFile) → slice_get hives i ≡ Some hive → hive_number hive ≡ i
  pub owner : (i : ℕ) (hive : HiveFile) → slice_get hives i ≡ Some hive → states.store_of hive ≡ (store_of journal).id

-- Files decode to the durable content of a journal, and to what the hives have in memory.
pub record AreOf (files : ℕ → List ℕ) (journal : Journal) (hives : List HiveFile) : Type 0 where
  pub decodes : decoded (encodings_of journal) (files journal_file) ≡ Some (choice_of journal).now
  pub holds : (i : ℕ) (hive : HiveFile) → slice_get hives i ≡ Some hive
      → HiveFilesHold (store_of journal).id (files (primary_file i)) (files (log_file i)) (memory_of hive)

-- the greatest number in the hives' files
abbrev pub greatest : List HiveFile → ℕ
greatest [] = 0
greatest (hive ∷ hives) = max (file_choice hive).now.1 (greatest hives)

-- the number of a store: that of the journal's last change, if it is above 0, or else the greatest of a hive
abbrev pub IsNumber : ℕ → List HiveFile → ℕ → Type 0
IsNumber last hives number = ((0 < last) × (number ≡ last)) ⊎ ((last ≡ 0) × (number ≡ greatest hives))

-- What the changes of a journal above a hive's own number make of what it has in memory: each is legal in its turn.
abbrev pub replayed_on : Content TimedOp → ℕ → TreeMap × ℕ → Option TreeMap
replayed_on journal i memory = replay tree_rules (ops_on i (above memory.1 journal)) memory.0

-- these trees are those to which the journal leads from what the first hives have in memory, hive by hive
abbrev pub LeadTo : Content TimedOp → List HiveFile → List TreeMap → Type 0
LeadTo journal hives trees = (i : ℕ) (hive : HiveFile) (tree : TreeMap) → slice_get hives i ≡ Some hive → slice_get trees i ≡ Some tree
    → replayed_on journal i (memory_of hive) ≡ Some tree

-- from what some hive has in memory the journal leads nowhere, since a change isn't legal there
abbrev pub SomeLeadsNowhere : Content TimedOp → List HiveFile → Type 0
SomeLeadsNowhere journal hives = (i : ℕ) × (hive : HiveFile) × (slice_get hives i ≡ Some hive) × (replayed_on journal i (memory_of hive) ≡ None)

-- if bytes decode to changes as the journal of a store, it is this one
abbrev pub IsOnlyStore : List ℕ → Store → Type 0
IsOnlyStore bytes store = (other : Store) (s : Content TimedOp) → IsStore other → decoded (encodings other) bytes ≡ Some s → other ≡ store

-- The journal of a store was scanned, with nothing under way. It has what its file decoded to at one moment, and the file
-- is as it says at a later one.
pub record IsScanned (faithful : Type 0) (store : Store) (then now : ℕ → FileState) (journal : Journal) : Type 0 where
  pub store_is : IsStore store
  pub of : store_of journal ≡ store
  pub choice : choice_of journal ≡ settled (record { below = (choice_of journal).now.below; elements = timed_elements (changes_of journal) })
  pub fit : AllByRecursion (Fits (all_hives store)) (changes_of journal)
  pub numbers_fit : top 0 (choice_of journal).now ≤ GREATEST_NUMBER
  pub decodes : faithful → decoded (encodings_of journal) (then journal_file).seen ≡ Some (choice_of journal).now
  pub on : faithful → is_on (encodings_of journal) (journal_view journal) (now journal_file)

-- A replay begins at the trees and the numbers that hives have in their files.
pub record BeginsAt (hives : List HiveFile) (begin : Replay) : Type 0 where
  pub numbers : begin.numbers.items ≡ own_numbers hives
  pub trees : begin.trees.items ≡ map (λ (hive : HiveFile). (memory_of hive).0) hives
  pub are : AreTrees begin.trees.items
  pub retained : numbered_changes begin.retained ≡ []
  pub names : begin.last_changes.last.items ≡ replicate (length hives) 0

-- Hives and a journal were read: all changes of the journal were replayed on the hives' trees.
pub record AreReplayed (journal : Journal) (hives : List HiveFile) (replay : Replay) : Type 0 where
  pub begin : Replay
  pub begins : BeginsAt hives begin
  pub replays : Replays begin replay (numbered (choice_of journal).now.below (changes_of journal))

-- a tree is one of outcomes of commits up to a number: it passes the test, and has such commits
abbrev pub IsOfOutcomes : ℕ → TreeMap → Type 0
IsOfOutcomes number tree = (are_outcomes number tree ≡ true) × ((commits : List Commit) × HasCommits commits tree × AreUpTo number commits)

-- the tree of a hive is refused as one of outcomes up to the store's number: it does not pass the test
abbrev pub IsRefusedAsOutcomes : ℕ → ℕ → TreeMap → Refusal → Type 0
IsRefusedAsOutcomes number hive tree why = (are_outcomes number tree ≡ false) × (why ≡ HiveDamaged hive BadStore)
