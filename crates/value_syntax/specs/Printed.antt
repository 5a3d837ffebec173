-- How a value is written.
use Rattle.std.specs.Prelude.{ℕ, ◌==◌, nat_lt, not, Bool, false, true, ◌&&◌, ◌||◌, if◌then◌else◌, List, [], ◌∷◌, ◌++◌, length, Option, Some, None, codes}
use Rattle.std.specs.Option.{option_and_then}
use Rattle.std.specs.List.{flat_map, list_all}
use Rattle.std.specs.Fmt.{decimal, digits}
use Rattle.std.specs.Char.{encode_utf8, is_control}
use Rattle.std.specs.Char.Utf16.{utf16_chars}
use Rattle.std.specs.Int.{w32, w64, from_le_bytes, is_in_range}
use Rattle.hex.specs.Hex.{encode_lower}
use Rattle.word_syntax.specs.Parts.{before, behind}
use Rattle.reg_export.specs.ByteUnits.{units_of, are_whole, ends_in_zero, front_units}
use Rattle.value_syntax.specs.declared.datum.Datum.{Datum}
use Rattle.value_syntax.specs.Data.{datum_of}

-- a character that is shown as itself: no control character, none that ends a line or turns its direction
abbrev pub is_shown : ℕ → Bool
is_shown c = not (is_control c) && not (is_in_range 0x2028 0x202e c) && not (is_in_range 0x2066 0x2069 c)

-- the characters of the units in bytes, with none for each surrogate that has no partner
abbrev pub text_chars : List ℕ → List (Option ℕ)
text_chars bytes = utf16_chars (units_of bytes)

-- a character that a line can hold; among texts also the character 0, which ends one
abbrev pub is_shown_in : Bool → Option ℕ → Bool
is_shown_in among None = false
is_shown_in among (Some c) = (among && c == 0) || is_shown c

-- a character is this one
abbrev pub is_char : ℕ → Option ℕ → Bool
is_char c None = false
is_char c (Some d) = d == c

-- the first character is this one
abbrev pub begins_with_char : ℕ → List (Option ℕ) → Bool
begins_with_char c [] = false
begins_with_char c (d ∷ ds) = is_char c d

-- somewhere in a text `\` stands before `0`
abbrev pub has_separator : List (Option ℕ) → Bool
has_separator [] = false
has_separator (c ∷ cs) = (is_char 92 c && begins_with_char 48 cs) || has_separator cs

-- bytes are of whole units, and the last unit is 0
abbrev pub is_terminated : List ℕ → Bool
is_terminated bytes = are_whole bytes && ends_in_zero bytes

-- bytes are a text and its terminator, and the text can be shown
abbrev pub is_text : List ℕ → Bool
is_text bytes = is_terminated bytes && list_all (is_shown_in false) (text_chars (front_units bytes))

-- units can be shown as texts with a unit 0 between each two
abbrev pub are_texts : List ℕ → Bool
are_texts bytes = nat_lt 0 (length bytes) && list_all (is_shown_in true) (text_chars bytes) && not (has_separator (text_chars bytes))

-- bytes are a list of texts, and all of them can be shown: one unit 0 alone, or texts and two units 0
abbrev pub is_list : List ℕ → Bool
is_list bytes = is_terminated bytes && (length (front_units bytes) == 0 || (ends_in_zero (front_units bytes) && are_texts (front_units (front_units bytes))))

-- a character as it is written: the one between two texts is `\0`
abbrev pub char_text : Option ℕ → List ℕ
char_text None = []
char_text (Some c) = if c == 0 then codes "\\0" else encode_utf8 c

abbrev pub shown_text : List ℕ → List ℕ
shown_text bytes = flat_map char_text (text_chars bytes)

-- the word for bytes of a type
abbrev pub hex_word : ℕ → List ℕ
hex_word kind = if kind == 3 then codes "hex" else codes "hex(" ++ digits 16 false kind ++ codes ")"

-- A value as words: the word for its type, a blank, and the text of its data. Texts that can be shown and numbers of the
-- right length have words for their types. Anything else is `hex(T)`, and of type 3 `hex`.
abbrev pub datum_text : ℕ → List ℕ → List ℕ
datum_text kind bytes =
    if kind == 1 && is_text bytes then codes "sz " ++ shown_text (front_units bytes) else (
    if kind == 2 && is_text bytes then codes "expand " ++ shown_text (front_units bytes) else (
    if kind == 7 && is_list bytes then codes "multi " ++ shown_text (front_units (front_units bytes)) else (
    if kind == 4 && length bytes == 4 then codes "dword " ++ decimal (from_le_bytes w32 bytes) else (
    if kind == 11 && length bytes == 8 then codes "qword " ++ decimal (from_le_bytes w64 bytes) else
    hex_word kind ++ codes " " ++ encode_lower bytes))))

-- what a line spells, whose first word is the word for a type: the rest of it is the text of data
abbrev pub datum_on : List ℕ → Option Datum
datum_on line = option_and_then (datum_of (before 32 line)) (behind 32 line)
