-- What several calls of the device come to, and what they leave.
use Rattle.std.specs.Prelude.{◌≡◌, ◌⊎◌, ℕ}
use Rattle.refusals.specs.declared.refusal.Refusal.{Refusal}
use Rattle.refusals.specs.declared.refusal.Refusal.TheVariants.{NoMemory, DiskFault}
use Rattle.disk_model.specs.FileState.{FileState}
use Rattle.disk_model.specs.Call.{Extends}

-- Calls come to DiskFault only if the device failed in one of them, and to a reason in the bytes only if it is true of
-- them. Want of memory may come too.
abbrev pub RefusalHasCause : Type 0 → (Refusal → Type 0) → Refusal → Type 0
RefusalHasCause fault stands why = (why ≡ NoMemory) ⊎ (((why ≡ DiskFault) × fault) ⊎ stands why)

-- no reason in bytes
abbrev pub no_cause : Refusal → Type 0
no_cause why = ⊥

-- Some calls on files of a part's own: time goes on, and each other file is as before.
pub record TouchesOwnFiles (own : ℕ → Type 0) (old_states new_states : ℕ → ℕ → FileState) (old_clock new_clock : ℕ) : Type 0 where
  pub time : Extends old_states new_states old_clock new_clock
  pub others : (f : ℕ) → ¬ (own f) → new_states new_clock f ≡ old_states old_clock f
