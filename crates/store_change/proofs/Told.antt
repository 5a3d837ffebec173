-- What is told of a change, if it could be written.
use Rattle.std.proofs.Common.{◌≡◌, ℕ, true, false, List, Option, None, Result, Ok, Err, IfOk, refl, subst}
use Rattle.std.specs.Prelude.{OnOk}
use Rattle.refusals.specs.declared.refusal.Refusal.{Refusal}
use Rattle.reg_tree.specs.Maps.{TreeMap}
use Rattle.store_model.specs.Machine.{Machine}
use Rattle.store_driver.specs.Openings.{BeginsAt}

-- an opened store isn't faulted
pub begins_whole : (hives number : ℕ) (trees : List TreeMap) (room : ℕ) (sessions : List ℕ) (machine : Machine) → BeginsAt hives number trees room sessions machine → machine.faulted ≡ true → ⊥
begins_whole hives number trees room sessions machine begins faulted = never (subst (λ (m : Machine). m.faulted ≡ true) begins faulted)
  where
    never : false ≡ true → ⊥
    never e = cc

-- what is refused of the steps after a change, if it was told
pub told_so : {R E : Type 0} (told : Result R E) (step : R → Option Refusal) (same : R → Type 0) (finishes printed : Option Refusal → Type 0) → IfOk told (λ report. same report × finishes (step report)) → IfOk told (λ report. printed (step report))
    → (refused : Option Refusal) × OnOk told (finishes refused) × IfOk told (λ report. same report × (step report ≡ refused) × printed refused)
told_so (Ok report) step same finishes printed ends is = (step report, ends.1, (ends.0, refl, is))
told_so (Err error) step same finishes printed ends is = (None, tt, tt)

-- the reason why no store was opened, if it was told
pub refused_so : {R O E : Type 0} (told : Result R E) (outcome : R → O) (step : R → Option Refusal) (one : O) (printed : O → Option Refusal → Type 0) → IfOk told (λ report. (outcome report ≡ one) × (step report ≡ None)) → IfOk told (λ report. printed (outcome report) (step report))
    → IfOk told (λ report. (outcome report ≡ one) × (step report ≡ None) × printed one None)
refused_so (Ok report) outcome step one printed same is = (same.0, same.1, subst (λ o. printed o None) same.0 (subst (λ (refused : Option Refusal). printed (outcome report) refused) same.1 is))
refused_so (Err error) outcome step one printed same is = tt
