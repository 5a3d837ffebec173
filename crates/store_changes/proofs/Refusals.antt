-- Why the changes of a store's journal aren't read.
use Rattle.std.proofs.Common.{◌≡◌, ◌⊎◌, inl, inr, ℕ, List, subst, sym}
use Rattle.refusals.specs.declared.refusal.Refusal.{Refusal}
use Rattle.refusals.specs.declared.refusal.Refusal.TheVariants.{JournalDamaged}
use Rattle.disk_model.specs.FileState.{FileState}
use Rattle.disk_model.specs.ReadOnly.{OnlySyncs}
use Rattle.disk_model.specs.StoreFiles.{journal_file}
use Rattle.disk_model.proofs.Unwritten.{seen_same, synced_still}
use Rattle.hive_files.specs.Frames.{RefusalHasCause}
use Rattle.commit_journal.specs.ReadBuffers.{FailsBy, journal_bytes_at}
use Rattle.commit_journal.specs.Store.{IsNoJournal}
use Rattle.recovery.specs.Recovered.{IsNoStore, seen_in}

-- a sync leaves what a read of the journal gives
pub same_bytes : (old new : ℕ → ℕ → FileState) (before now : ℕ) → OnlySyncs old new before now → journal_bytes_at new now ≡ seen_in (old before) journal_file
same_bytes old new before now synced = seen_same (old before journal_file) (new now journal_file) (synced_still synced journal_file)

-- the journal that was opened can't be read again
pub read_refused : (failed fault faithful damaged : Type 0) (files : ℕ → List ℕ) (why : Refusal) → (fault → failed) → (damaged → faithful → IsNoJournal (files journal_file)) → FailsBy fault damaged why → RefusalHasCause failed (IsNoStore faithful files) why
read_refused failed fault faithful damaged files why worse wrong (inl want) = inl want
read_refused failed fault faithful damaged files why worse wrong (inr (inl broken)) = inr (inl (broken.0, worse broken.1))
read_refused failed fault faithful damaged files why worse wrong (inr (inr spoiled)) = inr (inr (subst (IsNoStore faithful files) (sym spoiled.0) (tt, λ f. inl (wrong spoiled.1 f))))

-- it is another one, which a disk that answers as it should never gives
pub other_refused : (failed faithful : Type 0) (files : ℕ → List ℕ) → (faithful → ⊥) → RefusalHasCause failed (IsNoStore faithful files) JournalDamaged
other_refused failed faithful files never = inr (inr (tt, λ f. absurd (never f)))
