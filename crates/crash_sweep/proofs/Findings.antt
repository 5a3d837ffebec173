-- What is found after a power cut.
use Rattle.std.proofs.Common.{◌≡◌, ◌≢◌, ◌⊎◌, ℕ, ◌<◌, List, Result, IfOk, inl, inr, sym, subst}
use Rattle.std.proofs.lemmas.Result.{IfOk-weaker}
use Rattle.disk_model.specs.FileState.{FileState}
use Rattle.disk_model.specs.Tear.{IsCrashOf}
use Rattle.disk_model.specs.declared.tear.Tear.{Tear}
use Rattle.store_model.specs.Machine.{Machine}
use Rattle.recovery.specs.Recovered.{IsNoStore, seen_in}
use Rattle.refusals.specs.declared.refusal.Refusal.{Refusal}
use Rattle.refusals.specs.declared.refusal.Refusal.TheVariants.{DiskFault, NoMemory}
use Rattle.commit_journal.specs.Store.{Store}
use Rattle.store_driver.specs.Openings.{IsOpenedOn, MayNotOpen, session_0}
use Rattle.crash_sweep.specs.Findings.{CrashGivesFinding, FilesRecoverNumber, FindingIsRight}
use Rattle.crash_sweep.specs.declared.finding.NumberRange.{NumberRange}
use Rattle.crash_sweep.specs.declared.finding.Finding.{Finding}
use Rattle.crash_sweep.specs.declared.finding.Finding.TheVariants.{Nothing}

-- each file is left as the tear says
abbrev AreLeft : Tear → (ℕ → FileState) → (ℕ → FileState) → Type 0
AreLeft tear state left = (f : ℕ) → IsCrashOf tear (state f) (left f)

-- a finding for a store that opened at a number
pub found_open : (tear : Tear) (bounds : NumberRange) (state left : ℕ → FileState) (store : Store) (number : ℕ) (machine : Machine) (finding : Finding) → AreLeft tear state left
    → IsOpenedOn (Unit {0}) (seen_in left) store number session_0 machine → ((files : ℕ → List ℕ) → FilesRecoverNumber files number → FindingIsRight bounds files finding) → CrashGivesFinding tear bounds state finding
found_open tear bounds state left store number machine finding by opened tells = (left, by, tells (seen_in left) (store, opened.trees, opened.recovered tt))

-- why nothing opens, if memory was not lacking
told : (files : ℕ → List ℕ) (failed : Type 0) (why : Refusal) → why ≢ NoMemory → MayNotOpen failed (Unit {0}) files why → (why ≡ DiskFault) ⊎ IsNoStore (Unit {0}) files why
told files failed why fed (inl wanting) = absurd (fed wanting)
told files failed why fed (inr (inl broke)) = inl broke.0
told files failed why fed (inr (inr none)) = inr none

-- a finding for a store that didn't open
pub found_nothing : (E : Type 0) (tear : Tear) (bounds : NumberRange) (state left : ℕ → FileState) (failed : Type 0) (why : Refusal) (result : Result Finding E) → AreLeft tear state left
    → MayNotOpen failed (Unit {0}) (seen_in left) why → IfOk result (λ finding. (finding ≡ Nothing why) × (why ≢ NoMemory)) → IfOk result (CrashGivesFinding tear bounds state)
found_nothing E tear bounds state left failed why result by none said =
    IfOk-weaker result _ _ (λ finding is. (left, by, subst (FindingIsRight bounds (seen_in left)) (sym is.0) (told (seen_in left) failed why is.1 none))) said
