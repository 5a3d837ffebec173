-- The lines of encoded text.
use Rattle.std.proofs.Common.{◌≡◌, ◌≢◌, ℕ, zero, suc, ◌≤◌, ◌-◌, ◌^◌, ◌<◌, ◌==◌, ◌&&◌, Bool, true, false, cond, List, [], ◌∷◌, ◌++◌, map, length, Option, Some, None, refl, sym, ◌∙◌, ap, arith, append_assoc}
use Rattle.std.specs.Prelude.{All, flat_map, nat_eq, nat_lt, nat_le, slice_index, drop, IsAscii, chars}
use Rattle.std.specs.List.{slice_split, onto_first, starts_with, AllByRecursion}
use Rattle.std.specs.Int.{w16, to_le_bytes, byte_at}
use Rattle.std.specs.Char.Escape.{encode_utf16}
use Rattle.std.proofs.lemmas.Bool.Decides.{nat_tests}
use Rattle.std.proofs.lemmas.Str.{is_utf8-from_IsUtf8, IsUtf8-from_ascii, chars-IsAscii}
use Rattle.std.proofs.lemmas.List.Splits.{length-slice_split, slice_split_at}
use Rattle.std.proofs.lemmas.List.Elements.{All-append, All-cons, All-nil}
use Rattle.reg_file.specs.CodePage.{ansi_unit}
use Rattle.reg_file.specs.Lines.{utf8_line, ansi_line, parts, onto_lines, unit_of, utf16_lines, encoded_lines, is_ansi, file_lines, last_is_none, unit_lines}
use Rattle.reg_file.specs.declared.code_page.TheConstants.{UNITS_FROM_80}
use Rattle.reg_file.specs.declared.lines.Encoding.{Encoding}
use Rattle.reg_file.specs.declared.lines.Encoding.TheVariants.{Utf8, Utf16, Ansi}
use Rattle.reg_file.proofs.BlankRuns.{by_test}

abbrev IsSome_line : List (Option (List ℕ)) → Type 0
IsSome_line lines = lines ≢ []

cons_some : (line : Option (List ℕ)) (lines : List (Option (List ℕ))) → ◌≡◌ {A = List (Option (List ℕ))} (line ∷ lines) [] → ⊥
cons_some line lines e = cc

onto_some : (front : List ℕ) (lines : List (Option (List ℕ))) → lines ≢ [] → onto_lines front lines ≢ []
onto_some front [] h = absurd (h refl)
onto_some front (None ∷ lines) h = cons_some None lines
onto_some front (Some line ∷ lines) h = cons_some (Some (front ++ line)) lines

utf16_some : (bytes : List ℕ) → utf16_lines bytes ≢ []
utf16_some [] = cons_some (Some []) []
utf16_some (low ∷ []) = cons_some None []
utf16_some (low ∷ high ∷ bytes) =
    by_test IsSome_line (unit_of low high == 10) (Some [] ∷ utf16_lines bytes) (onto_lines (unit_of low high ∷ []) (utf16_lines bytes)) (λ feed. cons_some (Some []) (utf16_lines bytes)) (λ other. onto_some (unit_of low high ∷ []) (utf16_lines bytes) (utf16_some bytes))

map_some : (read : List ℕ → Option (List ℕ)) (all : List (List ℕ)) → 0 < length all → map read all ≢ []
map_some read [] h = absurd (omega (arith, h))
map_some read (part ∷ others) h = cons_some (read part) (map read others)

encoded_some : (encoding : Encoding) (bytes : List ℕ) → encoded_lines encoding bytes ≢ []
encoded_some Utf8 bytes = let long = length-slice_split (λ byte. byte == 10) bytes in map_some utf8_line (parts bytes) (omega (arith, long))
encoded_some Utf16 bytes = utf16_some bytes
encoded_some Ansi bytes = let long = length-slice_split (λ byte. byte == 10) bytes in map_some ansi_line (parts bytes) (omega (arith, long))

-- a file has a line
abbrev unmarked_lines : List ℕ → List (Option (List ℕ))
unmarked_lines bytes = cond (is_ansi bytes) (encoded_lines Ansi bytes) (encoded_lines Utf8 bytes)

unmarked_some : (bytes : List ℕ) → unmarked_lines bytes ≢ []
unmarked_some bytes = by_test IsSome_line (is_ansi bytes) (encoded_lines Ansi bytes) (encoded_lines Utf8 bytes) (λ old. encoded_some Ansi bytes) (λ other. encoded_some Utf8 bytes)

pub file_has_line : (bytes : List ℕ) → file_lines bytes ≢ []
file_has_line bytes =
    by_test IsSome_line (starts_with nat_eq bytes (255 ∷ 254 ∷ [])) (encoded_lines Utf16 (drop 2 bytes)) (cond (starts_with nat_eq bytes (239 ∷ 187 ∷ 191 ∷ [])) (encoded_lines Utf8 (drop 3 bytes)) (unmarked_lines bytes))
    (λ wide. encoded_some Utf16 (drop 2 bytes))
    (λ other. by_test IsSome_line (starts_with nat_eq bytes (239 ∷ 187 ∷ 191 ∷ [])) (encoded_lines Utf8 (drop 3 bytes)) (unmarked_lines bytes) (λ marked. encoded_some Utf8 (drop 3 bytes)) (λ plain. unmarked_some bytes))

-- two bytes of a unit
two_bytes : (unit : ℕ) → unit < 2 ^ 16 → unit_of (byte_at 0 unit) (byte_at 1 unit) ≡ unit
two_bytes unit h = omega (arith, h)

onto_first_line : (unit : ℕ) (parts : List (List ℕ)) → 0 < length parts → map Some (onto_first unit parts) ≡ onto_lines (unit ∷ []) (map Some parts)
onto_first_line unit [] h = absurd (omega (arith, h))
onto_first_line unit (part ∷ parts) h = refl

unit_line : (unit : ℕ) (units : List ℕ) (test : Bool) → (unit == 10) ≡ test → unit_lines (unit ∷ units) ≡ cond test (Some [] ∷ unit_lines units) (onto_lines (unit ∷ []) (unit_lines units))
unit_line unit units true e = ap (λ t. map Some (cond t ([] ∷ slice_split (λ u. u == 10) units) (onto_first unit (slice_split (λ u. u == 10) units)))) e
unit_line unit units false e =
    let long = length-slice_split (λ u. u == 10) units in
    ap (λ t. map Some (cond t ([] ∷ slice_split (λ u. u == 10) units) (onto_first unit (slice_split (λ u. u == 10) units)))) e ∙ onto_first_line unit (slice_split (λ u. u == 10) units) (omega (arith, long))

wide_line : (unit : ℕ) (bytes : List ℕ) → unit < 2 ^ 16 → utf16_lines (to_le_bytes w16 unit ++ bytes) ≡ cond (unit == 10) (Some [] ∷ utf16_lines bytes) (onto_lines (unit ∷ []) (utf16_lines bytes))
wide_line unit bytes h = ap (λ u. cond (u == 10) (Some [] ∷ utf16_lines bytes) (onto_lines (u ∷ []) (utf16_lines bytes))) (two_bytes unit h)

-- units are read as they were written
wide_lines : (units : List ℕ) → AllByRecursion (λ unit. unit < 2 ^ 16) units → utf16_lines (flat_map (to_le_bytes w16) units) ≡ unit_lines units
wide_lines [] h = refl
wide_lines (unit ∷ units) h =
    wide_line unit (flat_map (to_le_bytes w16) units) h.0 ∙ ap (λ lines. cond (unit == 10) (Some [] ∷ lines) (onto_lines (unit ∷ []) lines)) (wide_lines units h.1) ∙ sym (unit_line unit units (unit == 10) refl)

pub read_wide : (units : List ℕ) → AllByRecursion (λ unit. unit < 2 ^ 16) units → file_lines (255 ∷ 254 ∷ flat_map (to_le_bytes w16) units) ≡ unit_lines units
read_wide units h = wide_lines units h

-- with one byte more the last line is none
last_onto : (unit : ℕ) (lines : List (Option (List ℕ))) → lines ≢ [] → onto_lines (unit ∷ []) (last_is_none lines) ≡ last_is_none (onto_lines (unit ∷ []) lines)
last_onto unit [] h = absurd (h refl)
last_onto unit (None ∷ []) h = refl
last_onto unit (Some line ∷ []) h = refl
last_onto unit (None ∷ next ∷ lines) h = refl
last_onto unit (Some line ∷ next ∷ lines) h = refl

last_behind : (line : Option (List ℕ)) (lines : List (Option (List ℕ))) → lines ≢ [] → line ∷ last_is_none lines ≡ last_is_none (line ∷ lines)
last_behind line [] h = absurd (h refl)
last_behind line (next ∷ lines) h = refl

units_some : (units : List ℕ) → unit_lines units ≢ []
units_some units = let long = length-slice_split (λ unit. unit == 10) units in map_some Some (parts units) (omega (arith, long))

last_by_test : (test : Bool) (unit : ℕ) (lines : List (Option (List ℕ))) → lines ≢ [] → cond test (Some [] ∷ last_is_none lines) (onto_lines (unit ∷ []) (last_is_none lines)) ≡ last_is_none (cond test (Some [] ∷ lines) (onto_lines (unit ∷ []) lines))
last_by_test true unit lines h = last_behind (Some []) lines h
last_by_test false unit lines h = last_onto unit lines h

odd_lines : (units : List ℕ) (last : ℕ) → AllByRecursion (λ unit. unit < 2 ^ 16) units → utf16_lines (flat_map (to_le_bytes w16) units ++ last ∷ []) ≡ last_is_none (unit_lines units)
odd_lines [] last h = refl
odd_lines (unit ∷ units) last h =
    wide_line unit (flat_map (to_le_bytes w16) units ++ last ∷ []) h.0 ∙ ap (λ lines. cond (unit == 10) (Some [] ∷ lines) (onto_lines (unit ∷ []) lines)) (odd_lines units last h.1)
    ∙ last_by_test (unit == 10) unit (unit_lines units) (units_some units) ∙ ap last_is_none (sym (unit_line unit units (unit == 10) refl))

pub read_odd : (units : List ℕ) (last : ℕ) → AllByRecursion (λ unit. unit < 2 ^ 16) units → file_lines (255 ∷ 254 ∷ (flat_map (to_le_bytes w16) units ++ last ∷ [])) ≡ last_is_none (unit_lines units)
read_odd units last h = odd_lines units last h

-- ASCII is read byte by byte
one_unit : (byte : ℕ) → byte < 128 → encode_utf16 byte ≡ byte ∷ []
one_unit byte h = let small : nat_lt byte 65536 ≡ true = grind (arith, nat_tests, h) in rw small refl

ascii_units : (bytes : List ℕ) → AllByRecursion (λ byte. byte < 128) bytes → flat_map encode_utf16 bytes ≡ bytes
ascii_units [] h = refl
ascii_units (byte ∷ bytes) h = ap (λ units. units ++ flat_map encode_utf16 bytes) (one_unit byte h.0) ∙ ap (λ units. byte ∷ units) (ascii_units bytes h.1)

is_ascii_text : (bytes : List ℕ) → AllByRecursion (λ byte. byte < 128) bytes → IsAscii bytes
is_ascii_text [] h i = omega arith
is_ascii_text (byte ∷ bytes) h zero = h.0
is_ascii_text (byte ∷ bytes) h (suc i) = is_ascii_text bytes h.1 i

ascii_line : (bytes : List ℕ) → AllByRecursion (λ byte. byte < 128) bytes → utf8_line bytes ≡ Some bytes
ascii_line bytes h =
    let ascii = is_ascii_text bytes h in
    ap (λ test. cond test (Some (flat_map encode_utf16 (chars bytes))) None) (is_utf8-from_IsUtf8 bytes (IsUtf8-from_ascii bytes ascii))
    ∙ ap (λ cs. Some (flat_map encode_utf16 cs)) (chars-IsAscii bytes ascii) ∙ ap Some (ascii_units bytes h)

ascii_parts : (bytes : List ℕ) → AllByRecursion (λ byte. byte < 128) bytes → AllByRecursion (λ part. AllByRecursion (λ byte. byte < 128) part) (slice_split (λ byte. byte == 10) bytes)
ascii_parts [] h = (tt, tt)
ascii_parts (byte ∷ bytes) h =
    by_test (AllByRecursion (λ part. AllByRecursion (λ b. b < 128) part)) (byte == 10) ([] ∷ slice_split (λ b. b == 10) bytes) (onto_first byte (slice_split (λ b. b == 10) bytes))
    (λ feed. (tt, ascii_parts bytes h.1)) (λ other. onto_ascii (slice_split (λ b. b == 10) bytes) (ascii_parts bytes h.1))
  where
    onto_ascii : (parts : List (List ℕ)) → AllByRecursion (λ part. AllByRecursion (λ b. b < 128) part) parts → AllByRecursion (λ part. AllByRecursion (λ b. b < 128) part) (onto_first byte parts)
    onto_ascii [] a = ((h.0, tt), tt)
    onto_ascii (part ∷ parts) a = ((h.0, a.0), a.1)

ascii_lines : (all : List (List ℕ)) → AllByRecursion (λ part. AllByRecursion (λ byte. byte < 128) part) all → map utf8_line all ≡ map Some all
ascii_lines [] h = refl
ascii_lines (part ∷ others) h = ap (λ line. line ∷ map utf8_line others) (ascii_line part h.0) ∙ ap (λ lines. Some part ∷ lines) (ascii_lines others h.1)

-- in the code page too
ansi_itself : (byte : ℕ) → byte < 128 → ansi_unit byte ≡ byte
ansi_itself byte h = let low : nat_le 128 byte ≡ false = grind (arith, nat_tests, h) in ap (λ test. cond (test && nat_le byte 159) (slice_index UNITS_FROM_80 (byte - 128)) byte) low

ansi_ascii : (bytes : List ℕ) → AllByRecursion (λ byte. byte < 128) bytes → map ansi_unit bytes ≡ bytes
ansi_ascii [] h = refl
ansi_ascii (byte ∷ bytes) h = ap (λ unit. unit ∷ map ansi_unit bytes) (ansi_itself byte h.0) ∙ ap (λ units. byte ∷ units) (ansi_ascii bytes h.1)

ansi_lines : (all : List (List ℕ)) → AllByRecursion (λ part. AllByRecursion (λ byte. byte < 128) part) all → map ansi_line all ≡ map Some all
ansi_lines [] h = refl
ansi_lines (part ∷ others) h = ap (λ line. Some line ∷ map ansi_line others) (ansi_ascii part h.0) ∙ ap (λ lines. Some part ∷ lines) (ansi_lines others h.1)

no_mark : (bytes : List ℕ) (mark : ℕ) (more : List ℕ) → AllByRecursion (λ byte. byte < 128) bytes → 128 ≤ mark → starts_with nat_eq bytes (mark ∷ more) ≡ false
no_mark [] mark more h m = refl
no_mark (byte ∷ bytes) mark more h m = let other : nat_eq mark byte ≡ false = grind (arith, nat_tests, h.0, m) in rw other refl

unmarked_ascii : (bytes : List ℕ) → AllByRecursion (λ byte. byte < 128) bytes → unmarked_lines bytes ≡ unit_lines bytes
unmarked_ascii bytes h =
    by_test (λ lines. lines ≡ unit_lines bytes) (is_ansi bytes) (encoded_lines Ansi bytes) (encoded_lines Utf8 bytes) (λ old. ansi_lines (parts bytes) (ascii_parts bytes h)) (λ other. ascii_lines (parts bytes) (ascii_parts bytes h))

pub read_ascii : (bytes : List ℕ) → AllByRecursion (λ byte. byte < 128) bytes → file_lines bytes ≡ unit_lines bytes
read_ascii bytes h =
    ap (λ test. cond test (encoded_lines Utf16 (drop 2 bytes)) (cond (starts_with nat_eq bytes (239 ∷ 187 ∷ 191 ∷ [])) (encoded_lines Utf8 (drop 3 bytes)) (unmarked_lines bytes))) (no_mark bytes 255 (254 ∷ []) h (omega arith))
    ∙ ap (λ test. cond test (encoded_lines Utf8 (drop 3 bytes)) (unmarked_lines bytes)) (no_mark bytes 239 (187 ∷ 191 ∷ []) h (omega arith)) ∙ unmarked_ascii bytes h

-- lines that are written with a carriage return and a line feed behind each are read back
abbrev NoFeed : List ℕ → Type 0
NoFeed line = All (λ unit. (unit == 10) ≡ false) line

crlf_line : (line rest : List ℕ) → NoFeed line → slice_split (λ unit. unit == 10) ((line ++ 13 ∷ 10 ∷ []) ++ rest) ≡ (line ++ 13 ∷ []) ∷ slice_split (λ unit. unit == 10) rest
crlf_line line rest h =
    let regrouped : (line ++ 13 ∷ 10 ∷ []) ++ rest ≡ (line ++ 13 ∷ []) ++ 10 ∷ rest = append_assoc line (13 ∷ 10 ∷ []) rest ∙ sym (append_assoc line (13 ∷ []) (10 ∷ rest)) in
    ap (slice_split (λ unit. unit == 10)) regrouped ∙ slice_split_at (λ unit. unit == 10) (line ++ 13 ∷ []) 10 rest (All-append (λ unit. (unit == 10) ≡ false) line (13 ∷ []) h (All-cons (λ unit. (unit == 10) ≡ false) 13 [] refl (All-nil (λ unit. (unit == 10) ≡ false)))) refl

crlf_parts : (lines : List (List ℕ)) → AllByRecursion (λ line. All (λ unit. (unit == 10) ≡ false) line) lines → slice_split (λ unit. unit == 10) (flat_map (λ line. line ++ 13 ∷ 10 ∷ []) lines) ≡ map (λ line. line ++ 13 ∷ []) lines ++ [] ∷ []
crlf_parts [] h = refl
crlf_parts (line ∷ lines) h = crlf_line line (flat_map (λ l. l ++ 13 ∷ 10 ∷ []) lines) h.0 ∙ ap (λ parts. (line ++ 13 ∷ []) ∷ parts) (crlf_parts lines h.1)

pub read_crlf : (lines : List (List ℕ)) → AllByRecursion (λ line. All (λ unit. (unit == 10) ≡ false) line) lines → unit_lines (flat_map (λ line. line ++ 13 ∷ 10 ∷ []) lines) ≡ map Some (map (λ line. line ++ 13 ∷ []) lines ++ [] ∷ [])
read_crlf lines h = ap (map Some) (crlf_parts lines h)
