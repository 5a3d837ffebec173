-- What each call of a disk does, whichever call it is.
use Rattle.std.specs.Prelude.{◌≡◌, ◌≢◌, ℕ, ◌+◌, ◌-◌, ◌≤◌, min, List, length, take, drop, Result, Ok, Err, MatchResult}
use Rattle.refusals.specs.declared.refusal.Refusal.{Refusal}
use Rattle.refusals.specs.declared.refusal.Refusal.TheVariants.{DiskFault}
use Rattle.disk_model.specs.FileState.{FileState}

-- one moment goes by, and what was before stays as it was
pub record Passes (old_states new_states : ℕ → ℕ → FileState) (old_clock new_clock : ℕ) : Type 0 where
  pub clock : new_clock ≡ old_clock + 1
  pub past : (k f : ℕ) → k ≤ old_clock → new_states k f ≡ old_states k f

-- every file but this one is as before
abbrev pub KeepsOthers : ℕ → (ℕ → FileState) → (ℕ → FileState) → Type 0
KeepsOthers file old new = (f : ℕ) → f ≢ file → new f ≡ old f

-- the number of failures goes up by one if the call failed, and stays if it didn't
abbrev pub CountsFailure : {T E : Type 0} → Result T E → ℕ → ℕ → Type 0
CountsFailure result old new = MatchResult result (λ _. new ≡ old) (λ _. new ≡ old + 1)

-- bytes of the file from this offset on are at the buffer's front: as many as there are, and as there is room for
pub record ReadGives (offset : ℕ) (seen old_buffer new_buffer : List ℕ) (count : ℕ) : Type 0 where
  pub all : count ≡ min (length seen - offset) (length old_buffer)
  pub bytes : take count new_buffer ≡ take count (drop offset seen)

-- some calls, none or more: time goes on, and what was before stays as it was
pub record Extends (old_states new_states : ℕ → ℕ → FileState) (old_clock new_clock : ℕ) : Type 0 where
  pub later : old_clock ≤ new_clock
  pub past : (k f : ℕ) → k ≤ old_clock → new_states k f ≡ old_states k f

-- At most one device call, by a part that has files of its own. The clock goes on by one at most, and each earlier
-- moment is as it was. Each file that isn't the part's own is as before.
pub record OneCall (own : ℕ → Type 0) (old_states new_states : ℕ → ℕ → FileState) (old_clock new_clock : ℕ) : Type 0 where
  pub later : old_clock ≤ new_clock
  pub one : new_clock ≤ old_clock + 1
  pub past : (k f : ℕ) → k ≤ old_clock → new_states k f ≡ old_states k f
  pub others : (f : ℕ) → ¬ (own f) → new_states new_clock f ≡ old_states old_clock f

-- A step of at most one device call answers DiskFault exactly if the device failed in it. The number of failures is
-- then one more, and at every other answer as it was.
abbrev pub HasFailed : {T : Type 0} → Result T Refusal → ℕ → ℕ → Type 0
HasFailed (Ok x) old new = new ≡ old
HasFailed (Err DiskFault) old new = new ≡ old + 1
HasFailed (Err refusal) old new = new ≡ old
