-- What the data of a value mean by its type.
use Rattle.std.specs.Prelude.{ℕ, ◌==◌, ◌&&◌, ◌||◌, if◌then◌else◌, List, [], ◌∷◌, length}
use Rattle.std.specs.List.{slice_split}
use Rattle.std.specs.Str.{bytes_eq}
use Rattle.std.specs.Int.{w32, w64, from_le_bytes, from_be_bytes}
use Rattle.reg_export.specs.declared.meaning.Meaning.{Meaning}
use Rattle.reg_export.specs.declared.meaning.Meaning.TheVariants as found
use Rattle.reg_export.specs.ByteUnits.{units_of, are_whole, ends_in_zero, front_units}

-- a text, or texts, by their units; a number; a number that needs 64 bits; or nothing that the type says
pub data DataMeaning : Type 0 where
  Text : List ℕ → DataMeaning
  Texts : List (List ℕ) → DataMeaning
  Number : ℕ → DataMeaning
  WideNumber : ℕ → DataMeaning
  Unknown : DataMeaning

-- units, parted at each 0
abbrev pub parted : List ℕ → List (List ℕ)
parted units = slice_split (λ u. u == 0) units

-- bytes without a unit 0 at the end, if there is one
abbrev pub unterminated : List ℕ → List ℕ
unterminated bytes = if ends_in_zero bytes then front_units bytes else bytes

-- the texts of type 7, each with a terminator, and one more after the last: the unit 0 alone is none; any other list
-- ends in two units 0
abbrev pub texts_of : List ℕ → DataMeaning
texts_of bytes = if bytes_eq bytes (0 ∷ 0 ∷ []) then Texts [] else (
    if are_whole bytes && ends_in_zero bytes && ends_in_zero (front_units bytes) then Texts (parted (units_of (front_units (front_units bytes)))) else Unknown)

-- types 1, 2 and 6 are texts; 7 is texts; 4 and 5 are numbers of 32 bits, 5 with the high byte first; 11 is one of 64
abbrev pub meaning_of : ℕ → List ℕ → DataMeaning
meaning_of kind bytes =
    if kind == 1 || kind == 2 || kind == 6 then (if are_whole bytes then Text (units_of (unterminated bytes)) else Unknown) else (
    if kind == 7 then texts_of bytes else (
    if kind == 4 then (if length bytes == 4 then Number (from_le_bytes w32 bytes) else Unknown) else (
    if kind == 5 then (if length bytes == 4 then Number (from_be_bytes w32 bytes) else Unknown) else (
    if kind == 11 then (if length bytes == 8 then WideNumber (from_le_bytes w64 bytes) else Unknown) else Unknown))))

-- the same, as the code has it: of texts the bytes
abbrev pub meant : Meaning → DataMeaning
meant (found.Text bytes) = Text (units_of bytes.now)
meant found.NoTexts = Texts []
meant (found.Texts bytes) = Texts (parted (units_of bytes.now))
meant (found.Number n) = Number n
meant (found.WideNumber n) = WideNumber n
meant found.Unknown = Unknown
