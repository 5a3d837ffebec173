-- The lines of a script, and which of them were read.
use Rattle.std.specs.Prelude.{◌≡◌, ℕ, ◌==◌, if◌then◌else◌, List, [], ◌∷◌, ◌++◌, Option, Some, None, IfSome}
use Rattle.script_loop.specs.declared.end_of_script.EndOfScript.{EndOfScript}
use Rattle.script_loop.specs.declared.end_of_script.EndOfScript.TheVariants.{Ended, Broken, OutOfMemory}

-- the lines of a script: each ends with the byte 10, which the last may lack
abbrev pub with_byte : ℕ → List (List ℕ) → List (List ℕ)
with_byte byte [] = (byte ∷ []) ∷ []
with_byte byte (line ∷ lines) = (byte ∷ line) ∷ lines

abbrev pub lines_of : List ℕ → List (List ℕ)
lines_of [] = []
lines_of (byte ∷ bytes) = if byte == 10 then [] ∷ lines_of bytes else with_byte byte (lines_of bytes)

-- some lines are the first of others
abbrev pub AreFirst : List (List ℕ) → List (List ℕ) → Type 0
AreFirst lines all = (rest : List (List ℕ)) × (all ≡ lines ++ rest)

-- if the bytes of a script are known: a script that was read to its end is these lines; of a script that could not be
-- read on, or was not, these are the first
abbrev pub AreReadOf : List ℕ → List (List ℕ) → Option EndOfScript → Type 0
AreReadOf bytes lines (Some Ended) = lines ≡ lines_of bytes
AreReadOf bytes lines (Some Broken) = AreFirst lines (lines_of bytes)
AreReadOf bytes lines (Some OutOfMemory) = AreFirst lines (lines_of bytes)
AreReadOf bytes lines None = AreFirst lines (lines_of bytes)

abbrev pub WereRead : Option (List ℕ) → List (List ℕ) → Option EndOfScript → Type 0
WereRead known lines end_of_script = IfSome known (λ bytes. AreReadOf bytes lines end_of_script)

-- if the bytes are known, the first line was taken of them
abbrev pub TakesLine : Option (List ℕ) → Option (List ℕ) → List ℕ → Type 0
TakesLine known rest line = IfSome known (λ bytes. (left : List ℕ) × (rest ≡ Some left) × (lines_of bytes ≡ line ∷ lines_of left))

-- the same of several lines, the first ones
abbrev pub TakesLines : Option (List ℕ) → Option (List ℕ) → List (List ℕ) → Type 0
TakesLines known rest lines = IfSome known (λ bytes. (left : List ℕ) × (rest ≡ Some left) × (lines_of bytes ≡ lines ++ lines_of left))
