-- What contracts see of an opened store.
use Rattle.std.specs.Prelude.{◌≡◌, Bool, false, refl}
use Rattle.std.specs.Coded.{Coded, code_by, coded×, coded_bool}
use Rattle.commit_journal.specs.Store.{Store}
use Rattle.commit_journal.specs.Journals as journals
use Rattle.recovery.specs.Invariant.{AreWhole}
use Rattle.recovery.specs.declared.found.RecoveredStore.{RecoveredStore}
use Rattle.recovery.specs.contracts.found.RecoveredStore as found

-- the disk, what was found on it, and whether the device has failed in a step of a repair
pub record Shown (D : Type 0) : Type 0 where
  pub disk : D
  pub found : RecoveredStore
  pub failed : Bool

abbrev pub shown_code : {D : Type 0} → Coded D → Coded (Shown D)
shown_code {D = D} code = code_by (D × (RecoveredStore × Bool)) (coded× code (coded× found.the_row.coded coded_bool))
    (λ s. (s.disk, (s.found, s.failed))) (λ p. record { disk = p.0; found = p.1.0; failed = p.1.1 }) (λ _. refl)

-- the store, and the number and the trees that are recovered
abbrev pub store_of : {D : Type 0} → Shown D → Store
store_of opened = journals.store_of opened.found.journal

-- no repair is left, and the device hasn't failed in a repair
abbrev pub StoreIsRepaired : {D : Type 0} → Shown D → Type 0
StoreIsRepaired opened = AreWhole opened.found.hives.items × (opened.failed ≡ false)
