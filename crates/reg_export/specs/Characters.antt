-- What stands first among units.
use Rattle.std.specs.Prelude.{ℕ, ◌<◌, ◌≤◌, List, [], ◌∷◌, get_or}
use Rattle.reg_export.specs.declared.characters.First.{First}
use Rattle.reg_export.specs.declared.characters.First.TheVariants.{Pair, Single}

-- two units are a pair of surrogates, the high one first
abbrev pub IsSurrogatePair : ℕ → ℕ → Type 0
IsSurrogatePair high low = (0xD800 ≤ high) × (high < 0xDC00) × (0xDC00 ≤ low) × (low < 0xE000)

-- its units
abbrev pub units_in : First → List ℕ
units_in (Pair high low) = high ∷ low ∷ []
units_in (Single unit) = unit ∷ []

-- a pair is one of surrogates
abbrev pub IsFirst : First → Type 0
IsFirst (Pair high low) = IsSurrogatePair high low
IsFirst (Single unit) = Unit {0}

-- a unit that stands alone is in no pair with the one after it
abbrev pub IsWhole : First → List ℕ → Type 0
IsWhole (Pair high low) rest = Unit {0}
IsWhole (Single unit) rest = ¬ (IsSurrogatePair unit (get_or rest 0 0))
