-- What a check of a store prints and answers.
use Rattle.std.specs.Prelude.{◌≡◌, ◌⊎◌, ℕ, List, Option}
use Rattle.std.specs.Io.KnownBytes.{Appends}
use Rattle.refusals.specs.declared.refusal.Refusal.{Refusal}
use Rattle.disk_model.specs.FileState.{FileState}
use Rattle.disk_model.specs.StoreFiles.{journal_file}
use Rattle.hive_files.specs.Frames.{RefusalHasCause}
use Rattle.commit_journal.specs.Journals.{choice_of, store_of}
use Rattle.engine_invariant.specs.Prefixes.{AreOnDisk, JournalDecodesTo}
use Rattle.recovery.specs.Invariant.{InvariantHolds}
use Rattle.recovery.specs.Recovered.{IsNoStore, IsRecovered}
use Rattle.recovery.specs.declared.found.RecoveredStore.{RecoveredStore}
use Rattle.reply_lines.specs.declared.status.Status.{Status}
use Rattle.reply_lines.specs.declared.status.Status.TheVariants as status
use Rattle.store_check.specs.StoreTexts.{refusal_lines, store_text}

-- What was found is what the files recover: the store, the number and the trees; the journal's changes; and the hives, as
-- they are in the files.
pub record IsFoundIn (files : ℕ → List ℕ) (state : ℕ → FileState) (found : RecoveredStore) : Type 0 where
  pub recovers : IsRecovered files (store_of found.journal) found.number found.trees
  pub decodes : JournalDecodesTo (store_of found.journal) (files journal_file) (choice_of found.journal).now
  pub on_disk : AreOnDisk found.journal found.hives.items state

-- The files recover a store, if the disk is faithful, of which the text is printed; or they are refused, and that is.
abbrev pub ReportsStore : Type 0 → Type 0 → (ℕ → List ℕ) → (ℕ → FileState) → Option (List ℕ) → Option (List ℕ) → Status → Type 0
ReportsStore failed faithful files state before after its_status =
    ((found : RecoveredStore) × InvariantHolds found × (faithful → IsFoundIn files state found) × Appends before after (store_text found) × (its_status ≡ status.Clean))
    ⊎ ((why : Refusal) × RefusalHasCause failed (IsNoStore faithful files) why × Appends before after (refusal_lines why) × (its_status ≡ status.Refused))
