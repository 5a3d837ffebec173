-- Why a reading is refused, said of other bytes.
use Rattle.std.proofs.Common.{◌≡◌, inl, inr, ⊎_elim, ℕ, List, [], ◌∷◌, ◌++◌, sym, ◌∙◌, None}
use Rattle.std.specs.Prelude.{Result, Ok, Err, IfErr}
use Rattle.std.proofs.lemmas.Option.{none-some}
use Rattle.refusals.specs.Answers.{RefusedFor}
use Rattle.refusals.specs.declared.refusal.Refusal.{Refusal}
use Rattle.refusals.specs.declared.refusal.Refusal.TheVariants.{JournalDamaged}
use Rattle.commit_journal.specs.Encoding.{Encodings, decoded}
use Rattle.commit_journal.specs.Numbered.{NumberedChange}
use Rattle.commit_journal.specs.Scans.{DecodeFirst, ReadingFails, ScanFails}
use Rattle.change_codec.specs.ModelChanges.{TimedOp}
use Rattle.commit_journal.proofs.Pieces.{fails_on}

abbrev Said : Type 1
Said = (Encodings TimedOp → List ℕ → Type 0) → Type 0

-- from what is so of some bytes to what is so of others
pub fails_from : (Denies : NumberedChange → Refusal → Type 0) (From To : Said) (taken : List NumberedChange) (why : Refusal) → ((P : Encodings TimedOp → List ℕ → Type 0) → From P → To P)
    → ReadingFails Denies From taken why → ReadingFails Denies To taken why
fails_from Denies From To taken why to fails = record {
  begins = to (DecodeFirst taken) fails.begins;
  reason = ⊎_elim (λ own. inl (⊎_elim (λ damaged. inl (damaged.0, to (λ t file. decoded t file ≡ None) damaged.1)) (λ none. inr none) own))
      (λ denied. inr (record { change = denied.change; denies = denied.denies; begins = to (DecodeFirst (taken ++ denied.change ∷ [])) denied.begins })) fails.reason;
}

pub answer_from : {X : Type 0} (r : Result X Refusal) (Denies : NumberedChange → Refusal → Type 0) (From To : Said) (taken : List NumberedChange) → ((P : Encodings TimedOp → List ℕ → Type 0) → From P → To P)
    → IfErr r (ReadingFails Denies From taken) → IfErr r (ReadingFails Denies To taken)
answer_from (Ok x) Denies From To taken to fails = tt
answer_from (Err why) Denies From To taken to fails = fails_from Denies From To taken why to fails

-- bytes that decode to nothing have any first changes
pub none_first : (taken : List NumberedChange) (t : Encodings TimedOp) (file : List ℕ) → decoded t file ≡ None → DecodeFirst taken t file
none_first taken t file none s is = absurd (none-some s (sym none ∙ is))

-- an own refusal, without a sink's
pub own_fails : (Denies : NumberedChange → Refusal → Type 0) (From : Said) (taken : List NumberedChange) (why : Refusal) → From (DecodeFirst taken) → RefusedFor JournalDamaged (From (λ t file. decoded t file ≡ None)) why → ReadingFails Denies From taken why
own_fails Denies From taken why begins own = record { begins = begins; reason = inl own }

-- the same of a scan
pub scan_from : {X : Type 0} (r : Result X Refusal) (Took : List NumberedChange → Type 0) (Denies : NumberedChange → Refusal → Type 0) (From To : List NumberedChange → Type 0) (fault risen damaged none : Type 0) → ((taken : List NumberedChange) → From taken → To taken) → (fault → risen) → (damaged → none)
    → IfErr r (ScanFails Took Denies From fault damaged) → IfErr r (ScanFails Took Denies To risen none)
scan_from (Ok x) Took Denies From To fault risen damaged none to up on fails = tt
scan_from (Err why) Took Denies From To fault risen damaged none to up on fails = record {
  taken = fails.taken;
  took = fails.took;
  begins = to fails.taken fails.begins;
  reason = ⊎_elim (λ own. inl (fails_on fault risen damaged none why up on own)) (λ denied. inr (record { change = denied.change; denies = denied.denies; begins = to (fails.taken ++ denied.change ∷ []) denied.begins })) fails.reason;
}
