-- The files stay on the disk as the journal and the hives say.
use Rattle.std.proofs.Common.{◌≡◌, ℕ, List, sym, subst, arith, Some, slice_get}
use Rattle.std.specs.Prelude.{slice_set}
use Rattle.disk_model.specs.FileState.{FileState}
use Rattle.disk_model.specs.StoreFiles.{IsJournal, primary_file, log_file, journal_file}
use Rattle.commit_journal.specs.OnDisk.{is_on}
use Rattle.commit_journal.specs.Store.{Store, encodings}
use Rattle.commit_journal.specs.Journals.{encodings_of, journal_view, store_of}
use Rattle.commit_journal.specs.declared.journal.Journal.{Journal}
use Rattle.hive_flush.specs.HiveStates.{FilesMatchHive}
use Rattle.hive_flush.specs.declared.hive.HiveFile.{HiveFile}
use Rattle.engine_invariant.specs.Prefixes.{AreOnDisk}
use Rattle.engine_invariant.proofs.HiveLists.{each_hive}

-- a call on the journal's file
pub journal_moves : (old new : Journal) (hives : List HiveFile) (a b : ℕ → FileState) → AreOnDisk old hives a → ((f : ℕ) → ¬ (IsJournal f) → b f ≡ a f) → is_on (encodings_of new) (journal_view new) (b journal_file) → AreOnDisk new hives b
journal_moves old new hives a b on others own = record {
  decodes = own;
  each = λ j h is. subst (λ (s : FileState). FilesMatchHive h s (b (log_file j))) (sym (others (primary_file j) (λ e. omega (arith, e)))) (subst (λ (s : FileState). FilesMatchHive h (a (primary_file j)) s) (sym (others (log_file j) (λ e. omega (arith, e)))) (on.each j h is));
}

-- no call
pub hive_moves : (journal : Journal) (hives : List HiveFile) (k : ℕ) (old new : HiveFile) (a : ℕ → FileState) → slice_get hives k ≡ Some old → AreOnDisk journal hives a → ((p l : FileState) → FilesMatchHive old p l → FilesMatchHive new p l) → AreOnDisk journal (slice_set hives k new) a
hive_moves journal hives k old new a is on keeps = record {
  decodes = on.decodes;
  each = each_hive hives k old new is (λ j h. FilesMatchHive h (a (primary_file j)) (a (log_file j))) (keeps (a (primary_file k)) (a (log_file k)) (on.each k old is)) (λ j h ne at. on.each j h at);
}

-- a step of the journal
pub journal_writes : (old new : Journal) (hives : List HiveFile) (a b : ℕ → FileState) → AreOnDisk old hives a → ((f : ℕ) → ¬ (IsJournal f) → b f ≡ a f) → store_of new ≡ store_of old
    → (is_on (encodings_of old) (journal_view old) (a journal_file) → is_on (encodings_of old) (journal_view new) (b journal_file)) → AreOnDisk new hives b
journal_writes old new hives a b on others same moves = journal_moves old new hives a b on others (subst (λ (s : Store). is_on (encodings s) (journal_view new) (b journal_file)) (sym same) (moves on.decodes))
