-- How the units of a registration file become bytes.
use Rattle.std.specs.Prelude.{◌≡◌, ℕ, nat_lt, Bool, true, List, [], ◌∷◌, ◌++◌, Option, Some, None, encode_utf8}
use Rattle.std.specs.List.{flat_map}
use Rattle.std.specs.Int.{w16, to_le_bytes}
use Rattle.std.specs.Char.Utf16.{utf16_chars}
use Rattle.std.specs.Io.KnownBytes.{Appends}
use Rattle.reg_export.specs.declared.encoding.Encoding.{Encoding}
use Rattle.reg_export.specs.declared.encoding.Encoding.TheVariants.{Utf8, Utf16}
use Rattle.reg_export.specs.NameTests.{are_chars}

-- the bytes of a character in UTF-8; half of a pair of surrogates has none
abbrev pub char_bytes : Option ℕ → List ℕ
char_bytes None = []
char_bytes (Some c) = encode_utf8 c

-- the bytes of units: those of their characters in UTF-8; or two each, the low one first
abbrev pub encoded : Encoding → List ℕ → List ℕ
encoded Utf8 units = flat_map char_bytes (utf16_chars units)
encoded Utf16 units = flat_map (to_le_bytes w16) units

-- an encoding has bytes for all of these units
abbrev pub can_encode : Encoding → List ℕ → Bool
can_encode Utf8 units = are_chars units
can_encode Utf16 units = true

-- a unit is ASCII
abbrev pub is_ascii : ℕ → Bool
is_ascii u = nat_lt u 128

-- what stands before the first unit of a file: nothing; or the mark of UTF-16LE
abbrev pub mark : Encoding → List ℕ
mark Utf8 = []
mark Utf16 = 255 ∷ 254 ∷ []

-- known bytes grow by the bytes of these units, each of which has some
abbrev pub Prints : Encoding → Option (List ℕ) → Option (List ℕ) → List ℕ → Type 0
Prints encoding old new units = (can_encode encoding units ≡ true) × Appends old new (encoded encoding units)

-- known bytes grow by the mark and the bytes of these units, each of which has some
abbrev pub PrintsFile : Encoding → Option (List ℕ) → Option (List ℕ) → List ℕ → Type 0
PrintsFile encoding old new units = (can_encode encoding units ≡ true) × Appends old new (mark encoding ++ encoded encoding units)
