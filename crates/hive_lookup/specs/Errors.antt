-- The error of a refusal.
use Rattle.std.specs.Prelude.{◌≡◌, ◌≢◌, ℕ}
use Rattle.refusals.specs.declared.refusal.Refusal.{Refusal}
use Rattle.refusals.specs.declared.refusal.Refusal.TheVariants as refusals
use Rattle.hive_lookup.specs.declared.errors.LookupError.{LookupError}
use Rattle.hive_lookup.specs.declared.errors.LookupError.TheVariants as lookup

-- memory was refused, or this refusal stands at this offset
abbrev pub TellsAt : ℕ → Refusal → LookupError → Type 0
TellsAt at why lookup.NoMemory = why ≡ refusals.NoMemory
TellsAt at why lookup.NotFound = ⊥
TellsAt at why (lookup.Damaged refusal to) = (why ≢ refusals.NoMemory) × (refusal ≡ why) × (to ≡ at)
