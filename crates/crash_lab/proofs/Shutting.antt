-- Why nothing opens after a loss of power.
use Rattle.std.proofs.Common.{◌≡◌, ◌≢◌, ℕ, ◌∙◌, inl, inr, sym, subst}
use Rattle.disk_model.specs.FileState.{FileState}
use Rattle.disk_model.specs.declared.tear.Tear.{Tear}
use Rattle.recovery.specs.Recovered.{IsNoStore, IsFileRefusal, seen_in}
use Rattle.refusals.specs.declared.refusal.Refusal.{Refusal}
use Rattle.refusals.specs.declared.refusal.Refusal.TheVariants.{DiskFault, NoMemory}
use Rattle.store_driver.specs.Openings.{MayNotOpen}
use Rattle.crash_lab.specs.Crashes.{IsLeftBy, MayNotReopen}

-- no refusal of files is that of a device that fails
tells_no_fault : (why : Refusal) → IsFileRefusal why → why ≢ DiskFault
tells_no_fault why tells fault = subst IsFileRefusal fault tells

-- whether a refusal is another one than that of a device that fails
abbrev IsOther : Refusal → Type 0
IsOther DiskFault = ⊥
IsOther why = Unit {0}

wants_no_fault : NoMemory ≢ DiskFault
wants_no_fault same = subst IsOther same tt

-- a device that failed found no memory; else the refusal of the files that are left is reported
pub stays_shut : (tear : Tear) (files left : ℕ → FileState) (failed : Type 0) (why reported : Refusal) → IsLeftBy tear files left → MayNotOpen failed (Unit {0}) (seen_in left) why
    → (why ≡ DiskFault → reported ≡ NoMemory) → (why ≢ DiskFault → reported ≡ why) → MayNotReopen tear files reported
stays_shut tear files left failed why reported by (inl wanting) fault other = inl (other (λ is. wants_no_fault (sym wanting ∙ is)) ∙ wanting)
stays_shut tear files left failed why reported by (inr (inl broke)) fault other = inl (fault broke.0)
stays_shut tear files left failed why reported by (inr (inr none)) fault other = inr (left, by, subst (IsNoStore (Unit {0}) (seen_in left)) (sym (other (tells_no_fault why none.0))) none)
