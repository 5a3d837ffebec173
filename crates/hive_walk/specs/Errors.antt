-- Where a fault stands.
use Rattle.std.specs.Prelude.{◌≡◌, ◌≢◌, ℕ, List}
use Rattle.refusals.specs.declared.refusal.Refusal.{Refusal}
use Rattle.refusals.specs.declared.refusal.Refusal.TheVariants as refusals
use Rattle.hive_walk.specs.declared.errors.ImageError.{ImageError}
use Rattle.hive_walk.specs.declared.errors.ImageError.TheVariants as image_error

-- memory was not given, or it is a fault for this refusal at this offset, to which these names lead
abbrev pub IsFaultAt : List (List ℕ) → ℕ → Refusal → ImageError → Type 0
IsFaultAt path at why image_error.NoMemory = Unit {0}
IsFaultAt path at why (image_error.Fault fault) = (why ≢ refusals.NoMemory) × (fault.refusal ≡ why) × (fault.at ≡ at) × (fault.path.items ≡ path)
