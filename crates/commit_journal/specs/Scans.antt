-- What a scan of a journal hands to a sink, and why it stops.
use Rattle.std.specs.Prelude.{◌≡◌, ◌⊎◌, ℕ, List, [], ◌∷◌, ◌++◌, Some, None}
use Rattle.refusals.specs.Answers.{RefusedFor}
use Rattle.refusals.specs.declared.refusal.Refusal.{Refusal}
use Rattle.refusals.specs.declared.refusal.Refusal.TheVariants.{JournalDamaged}
use Rattle.crash_model.specs.Changes as law
use Rattle.crash_model.specs.Promises.{Content}
use Rattle.change_codec.specs.ModelChanges.{TimedOp}
use Rattle.commit_journal.specs.Encoding.{Encodings, decoded}
use Rattle.commit_journal.specs.Numbered.{NumberedChange, numbered, timed_changes}
use Rattle.commit_journal.specs.ReadBuffers.{FailsBy}
use Rattle.commit_journal.specs.Store.{Store, IsStore, encodings}

-- these changes are the first of a content's, each with the number that it has there
abbrev pub AreFirstOf : List NumberedChange → Content TimedOp → Type 0
AreFirstOf changes s = (more : List (ℕ × law.Element TimedOp)) × (numbered s.below s.elements ≡ timed_changes changes ++ more)

-- if bytes decode to changes, these are the first of them
abbrev pub DecodeFirst : List NumberedChange → Encodings TimedOp → List ℕ → Type 0
DecodeFirst changes t bytes = (s : Content TimedOp) → decoded t bytes ≡ Some s → AreFirstOf changes s

-- if bytes are the journal of some store, these changes are its first
abbrev pub JournalBegins : List ℕ → List NumberedChange → Type 0
JournalBegins bytes changes = (store : Store) → IsStore store → DecodeFirst changes (encodings store) bytes

-- After these changes a sink was handed the next one, and doesn't take it for this reason.
pub record DeniesNext (Denies : NumberedChange → Refusal → Type 0) (Begins : List NumberedChange → Type 0) (taken : List NumberedChange) (why : Refusal) : Type 0 where
  pub change : NumberedChange
  pub denies : Denies change why
  pub begins : Begins (taken ++ change ∷ [])

-- Why a scan is refused, and what the sink took before: the first changes of the journal, if the bytes are one. Memory
-- was refused; or the device failed; or the bytes are damaged; or the sink doesn't take the next change.
pub record ScanFails (Took : List NumberedChange → Type 0) (Denies : NumberedChange → Refusal → Type 0) (Begins : List NumberedChange → Type 0) (fault damaged : Type 0) (why : Refusal) : Type 0 where
  pub taken : List NumberedChange
  pub took : Took taken
  pub begins : Begins taken
  pub reason : FailsBy fault damaged why ⊎ DeniesNext Denies Begins taken why

-- Why a reader is refused, once a sink took these changes. `From` says of which bytes: those that the reading came from.
pub record ReadingFails (Denies : NumberedChange → Refusal → Type 0) (From : (Encodings TimedOp → List ℕ → Type 0) → Type 0) (taken : List NumberedChange) (why : Refusal) : Type 0 where
  pub begins : From (DecodeFirst taken)
  pub reason : RefusedFor JournalDamaged (From (λ t file. decoded t file ≡ None)) why
      ⊎ DeniesNext Denies (λ changes. From (DecodeFirst changes)) taken why

-- Why a reading of buffered bytes of a file is refused, once a sink took these changes.
pub record StopsReading (Denies : NumberedChange → Refusal → Type 0) (From : (Encodings TimedOp → List ℕ → Type 0) → Type 0) (fault : Type 0) (taken : List NumberedChange) (why : Refusal) : Type 0 where
  pub begins : From (DecodeFirst taken)
  pub reason : FailsBy fault (From (λ t file. decoded t file ≡ None)) why
      ⊎ DeniesNext Denies (λ changes. From (DecodeFirst changes)) taken why
