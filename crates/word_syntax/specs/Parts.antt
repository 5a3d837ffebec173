-- The parts of a text between separators.
use Rattle.std.specs.Prelude.{ℕ, ◌+◌, ◌==◌, List, [], drop, Option, Some, None}
use Rattle.std.specs.Option.{option_map}
use Rattle.std.specs.List.{slice_split, position, before_first}

-- what follows the first separator, if there is one
abbrev pub behind : ℕ → List ℕ → Option (List ℕ)
behind separator bytes = option_map (λ at. drop (at + 1) bytes) (position (λ byte. byte == separator) bytes)

-- what is before the first separator, or all
abbrev pub before : ℕ → List ℕ → List ℕ
before separator bytes = before_first (λ byte. byte == separator) bytes

-- the parts between the separators of what follows one
abbrev pub parts_of : ℕ → Option (List ℕ) → List (List ℕ)
parts_of separator None = []
parts_of separator (Some bytes) = slice_split (λ byte. byte == separator) bytes
