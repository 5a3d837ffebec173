-- The values that words spell.
use Rattle.std.specs.Prelude.{ℕ, ◌==◌, ◌&&◌, if◌then◌else◌, List, [], ◌∷◌, ◌++◌, length, Option, Some, None, chars}
use Rattle.std.specs.Option.{option_map, option_and_then}
use Rattle.std.specs.List.{flat_map, slice_split}
use Rattle.std.specs.Char.Escape.{encode_utf16}
use Rattle.std.specs.Int.{w16, w32, w64, to_le_bytes}
use Rattle.hex.specs.Hex.{decode_of}
use Rattle.word_syntax.specs.HexBytes.{decoded}
use Rattle.value_syntax.specs.declared.datum.Datum.{Datum}
use Rattle.value_syntax.specs.declared.type_word.TypeWord.{TypeWord}
use Rattle.value_syntax.specs.declared.type_word.TypeWord.TheVariants.{Text, ExpandText, Number, WideNumber, Texts, Bytes}
use Rattle.value_syntax.specs.TypeWords.{number_of, type_of}

-- the bytes of a character: each unit of UTF-16 as two bytes, the low one first
abbrev pub char_bytes : ℕ → List ℕ
char_bytes c = flat_map (to_le_bytes w16) (encode_utf16 c)

-- the data of a text: its characters, and a unit 0
abbrev pub text_data : List ℕ → List ℕ
text_data cs = flat_map char_bytes cs ++ 0 ∷ 0 ∷ []

-- characters, with the character 0 for each two that are `\0`
abbrev pub with_zeros : List ℕ → List ℕ
with_zeros [] = []
with_zeros (c ∷ []) = c ∷ []
with_zeros (c ∷ d ∷ cs) = if c == 92 && d == 48 then 0 ∷ with_zeros cs else c ∷ with_zeros (d ∷ cs)

-- the data of texts with `\0` between each two: each text with a unit 0 after it, and one unit 0 more; no characters
-- are no texts
abbrev pub texts_data : List ℕ → List ℕ
texts_data [] = 0 ∷ 0 ∷ []
texts_data (c ∷ cs) = flat_map char_bytes (with_zeros (c ∷ cs)) ++ 0 ∷ 0 ∷ 0 ∷ 0 ∷ []

-- the bytes of one pair of hex digits or more
abbrev pub pair_bytes : List ℕ → Option (List ℕ)
pair_bytes part = if length part == 0 then None else decoded (decode_of part)

-- the bytes of all parts, if each has some
abbrev pub all_pair_bytes : List (List ℕ) → Option (List ℕ)
all_pair_bytes [] = Some []
all_pair_bytes (part ∷ parts) = option_and_then (λ front. option_map (λ rest. front ++ rest) (all_pair_bytes parts)) (pair_bytes part)

-- the bytes of pairs of hex digits, between which a comma may stand; nothing is no bytes
abbrev pub hex_bytes : List ℕ → Option (List ℕ)
hex_bytes text = if length text == 0 then Some [] else all_pair_bytes (slice_split (λ c. c == 44) text)

-- a datum of this type
abbrev pub datum_with : ℕ → List ℕ → Datum
datum_with kind bytes = record { kind = kind; «data» = bytes }

-- what the text of data spells, by the word for its type
abbrev pub datum_in : TypeWord → List ℕ → Option Datum
datum_in Text text = Some (datum_with 1 (text_data (chars text)))
datum_in ExpandText text = Some (datum_with 2 (text_data (chars text)))
datum_in Number text = option_map (λ n. datum_with 4 (to_le_bytes w32 n)) (number_of 0xffff_ffff text)
datum_in WideNumber text = option_map (λ n. datum_with 11 (to_le_bytes w64 n)) (number_of 0xffff_ffff_ffff_ffff text)
datum_in Texts text = Some (datum_with 7 (texts_data (chars text)))
datum_in (Bytes kind) text = option_map (datum_with kind) (hex_bytes text)

-- what two words spell: one for a type, and the text of data
abbrev pub datum_of : List ℕ → List ℕ → Option Datum
datum_of word text = option_and_then (λ type. datum_in type text) (type_of word)
