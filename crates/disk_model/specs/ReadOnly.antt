-- What several calls of a disk leave at each moment, if none of them writes or cuts.
use Rattle.std.specs.Prelude.{◌≡◌, ◌⊎◌, ℕ, ◌≤◌}
use Rattle.disk_model.specs.FileState.{FileState, Syncs}
use Rattle.disk_model.specs.Call.{Extends}

-- a file is as before, or synced
abbrev pub IsSyncedOrSame : FileState → FileState → Type 0
IsSyncedOrSame old new = (new ≡ old) ⊎ Syncs old new

-- Time goes on, and at each moment from the first to the last each file is as at the first.
pub record OnlyReads (old_states new_states : ℕ → ℕ → FileState) (old_clock new_clock : ℕ) : Type 0 where
  pub time : Extends old_states new_states old_clock new_clock
  pub same : (k f : ℕ) → old_clock ≤ k → k ≤ new_clock → new_states k f ≡ old_states old_clock f

-- Time goes on, and at each moment from the first to the last each file is as at the first, or synced.
pub record OnlySyncs (old_states new_states : ℕ → ℕ → FileState) (old_clock new_clock : ℕ) : Type 0 where
  pub time : Extends old_states new_states old_clock new_clock
  pub each : (k f : ℕ) → old_clock ≤ k → k ≤ new_clock → IsSyncedOrSame (old_states old_clock f) (new_states k f)
