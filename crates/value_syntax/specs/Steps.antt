-- What the steps over a text have written.
use Rattle.std.specs.Prelude.{ℕ, Bool, true, false, List, [], ◌∷◌, ◌++◌, ◌≡◌, Some}
use Rattle.std.specs.List.{flat_map}
use Rattle.value_syntax.specs.Data.{char_bytes, with_zeros, pair_bytes}

-- a backslash that is held back, or none
abbrev pub held : Bool → List ℕ
held true = 92 ∷ []
held false = []

-- what is written in the end, if these characters follow what is written and held back
abbrev pub written_before : List ℕ → Bool → List ℕ → List ℕ
written_before written is_held rest = written ++ flat_map char_bytes (with_zeros (held is_held ++ rest))

-- the bytes of pairs of digits are appended to those before them
abbrev pub AddsPairs : List ℕ → List ℕ → List ℕ → Type 0
AddsPairs part old new = (bytes : List ℕ) × (pair_bytes part ≡ Some bytes) × (new ≡ old ++ bytes)
