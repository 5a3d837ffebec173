-- A loss of power: what is left, and what opens of it.
use Rattle.std.specs.Prelude.{◌≡◌, ◌⊎◌, ℕ, ⊤}
use Rattle.disk_model.specs.FileState.{FileState}
use Rattle.disk_model.specs.Tear.{IsCrashOf}
use Rattle.disk_model.specs.declared.tear.Tear.{Tear}
use Rattle.store_model.specs.Machine.{Machine, with_history}
use Rattle.recovery.specs.Recovered.{IsNoStore, seen_in}
use Rattle.refusals.specs.declared.refusal.Refusal.{Refusal}
use Rattle.refusals.specs.declared.refusal.Refusal.TheVariants.{NoMemory}
use Rattle.commit_journal.specs.Store.{Store}
use Rattle.store_driver.specs.Openings.{IsOpenedOn, session_0}

-- each file is left as the tear says
abbrev pub IsLeftBy : Tear → (ℕ → FileState) → (ℕ → FileState) → Type 0
IsLeftBy tear files left = (f : ℕ) → IsCrashOf tear (files f) (left f)

-- The files that are left recover this number. The machine begins at it with the trees that the files recover, and with
-- the room that their journal takes; and its history may have this many changes.
abbrev pub OpensAfterCrash : Tear → (ℕ → FileState) → ℕ → ℕ → Machine → Type 0
OpensAfterCrash tear files limit number machine =
    (left : ℕ → FileState) × IsLeftBy tear files left
    × ((store : Store) × (opened : Machine) × IsOpenedOn ⊤ (seen_in left) store number session_0 opened × (machine ≡ with_history limit opened))

-- Why nothing opens: memory was lacking, or the files that are left recover nothing, as the refusal says.
abbrev pub MayNotReopen : Tear → (ℕ → FileState) → Refusal → Type 0
MayNotReopen tear files why = (why ≡ NoMemory) ⊎ ((left : ℕ → FileState) × IsLeftBy tear files left × IsNoStore ⊤ (seen_in left) why)
