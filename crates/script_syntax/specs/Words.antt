-- The words of a line, and what one of them parses to, if anything.
use Rattle.std.specs.Prelude.{◌≡◌, ℕ, ◌-◌, ◌==◌, nat_lt, nat_le, ◌&&◌, if◌then◌else◌, List, [], ◌∷◌, ◌++◌, length, take, drop, replicate, Option, Some, None, codes}
use Rattle.std.specs.Option.{option_map, option_and_then}
use Rattle.std.specs.List.{list_all, slice_split}
use Rattle.std.specs.Char.{is_ascii_digit, is_ascii_alphanumeric}
use Rattle.std.specs.Str.{bytes_eq}
use Rattle.std.specs.Str.Parse.{digits_value}
use Rattle.std.specs.Int.{from_be_bytes}
use Rattle.std.specs.Int.{w16}
use Rattle.hex.specs.Hex.{decode_of, decode_sized}
use Rattle.uuid.specs.Text.{parsed}
use Rattle.word_syntax.specs.Parts.{before, behind, parts_of}
use Rattle.word_syntax.specs.HexBytes.{decoded}
use Rattle.script_syntax.specs.declared.label.TheConstants.{LONGEST_LABEL}
use Rattle.script_syntax.specs.declared.line.KeyRef.{KeyRef}

-- the words of a line: its parts between blanks
abbrev pub words : List ℕ → List (List ℕ)
words bytes = slice_split (λ byte. byte == 32) bytes

-- the number that one or more digits parse to, if it is at most this
abbrev pub number_of : ℕ → List ℕ → Option ℕ
number_of most word =
    if nat_lt 0 (length word) && list_all is_ascii_digit word && nat_le (digits_value 10 word) most then Some (digits_value 10 word) else None

-- the bytes of pairs of hex digits, at least one pair; a minus alone is no bytes
abbrev pub data_of : List ℕ → Option (List ℕ)
data_of word = if bytes_eq word (codes "-") then Some [] else if length word == 0 then None else decoded (decode_of word)

-- the units of a part after a `%`: four hex digits are one unit, and each byte that follows is its own unit
abbrev pub escaped_unit : Option (List ℕ) → List ℕ → Option (List ℕ)
escaped_unit digits rest = option_map (λ pair. from_be_bytes w16 pair ∷ rest) digits

abbrev pub escaped : List ℕ → Option (List ℕ)
escaped part = if nat_le 4 (length part) then escaped_unit (decoded (decode_sized (take 4 part) 2)) (drop 4 part) else None

-- the units of all parts, if each has some
abbrev pub all_escaped : List (List ℕ) → Option (List ℕ)
all_escaped [] = Some []
all_escaped (part ∷ parts) = option_and_then (λ front. option_map (λ rest. front ++ rest) (all_escaped parts)) (escaped part)

-- the units of a text: `%` and four hex digits is that unit, any other byte is the unit of its number
abbrev pub units_of : List ℕ → Option (List ℕ)
units_of word = option_map (λ rest. before 37 word ++ rest) (all_escaped (parts_of 37 (behind 37 word)))

-- the units of a value's name: `@` is the empty name, which has no other spelling
abbrev pub name_of : List ℕ → Option (List ℕ)
name_of word = if bytes_eq word (codes "@") then Some [] else if length word == 0 then None else units_of word

-- a hive's number and a path's text, with a colon between
abbrev pub placed : Option ℕ → Option (List ℕ) → Option KeyRef
placed hive path = option_and_then (λ number. option_map (λ units. record { hive = number; path = units }) path) hive

abbrev pub key_ref_of : List ℕ → Option KeyRef
key_ref_of word = placed (number_of 255 (before 58 word)) (option_and_then units_of (behind 58 word))

-- a label: ASCII letters or digits, at least one and at most 16, filled up with zeros
abbrev pub label_of : List ℕ → Option (List ℕ)
label_of word =
    if nat_lt 0 (length word) && nat_le (length word) LONGEST_LABEL && list_all is_ascii_alphanumeric word
    then Some (word ++ replicate (LONGEST_LABEL - length word) 0) else None

-- the bytes of a UUID, in any of its text forms
unfoldable pub uuid_of : List ℕ → Option (List ℕ)
uuid_of word = parsed word

-- the units of a part after a `%` are appended to the units before it
abbrev pub AddsEscaped : List ℕ → List ℕ → List ℕ → Type 0
AddsEscaped part old new = (units : List ℕ) × (escaped part ≡ Some units) × (new ≡ old ++ units)
