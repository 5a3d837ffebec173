-- What a fold between two registries leaves of an engine's machine.
use Rattle.std.specs.Prelude.{◌≡◌, ℕ, []}
use Rattle.store_model.specs.Machine.{Machine, last_number, trees_now}

-- no change was accepted since the store was opened or its history was folded, and no session is open
abbrev pub IsIdle : Machine → Type 0
IsIdle machine = (machine.accepted ≡ []) × (machine.sessions ≡ [])

-- the opening and the history stay, and the sessions and the bounds
pub record HistoryStays (old new : Machine) : Type 0 where
  pub opened : new.opened ≡ old.opened
  pub before : new.before ≡ old.before
  pub accepted : new.accepted ≡ old.accepted
  pub sessions : new.sessions ≡ old.sessions
  pub bounds : new.bounds ≡ old.bounds

-- the history is folded at this number, which is the last one's
pub record IsFoldedAt (old new : Machine) (told : ℕ) : Type 0 where
  pub idle : IsIdle new
  pub opened : new.opened ≡ trees_now old
  pub before : new.before ≡ last_number old
  pub hives : new.bounds.hives ≡ old.bounds.hives
  pub number : told ≡ last_number old
