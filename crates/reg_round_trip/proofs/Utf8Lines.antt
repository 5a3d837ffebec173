-- Text in UTF-8 is read as the lines of its units.
use Rattle.std.proofs.Common.{◌≡◌, ℕ, ◌+◌, ◌-◌, ◌*◌, ◌/◌, ◌%◌, ◌<◌, ◌≤◌, ◌^◌, Bool, true, false, cond, ◌&&◌, List, [], ◌∷◌, ◌++◌, map, length, Option, Some, None, refl, sym, ◌∙◌, ap, subst, arith, inl}
use Rattle.std.specs.Prelude.{◌==◌, chars, is_some, nat_lt}
use Rattle.std.specs.List.{AllByRecursion, flat_map, list_all, onto_first, slice_split}
use Rattle.std.specs.Char.{encode_utf8}
use Rattle.std.specs.Char.Escape.{encode_utf16}
use Rattle.std.specs.Char.Utf16.{utf16_chars}
use Rattle.std.specs.Str.{encode_utf8_all, is_utf8}
use Rattle.std.proofs.Math.Utf8.{scalar, scalars}
use Rattle.std.proofs.lemmas.Bool.Decides.{Decides-eqb, nat_tests}
use Rattle.std.proofs.lemmas.List.Splits.{length-slice_split}
use Rattle.std.proofs.lemmas.Str.{chars-encodes, encode_ascii, is_utf8-from_IsUtf8}
use Rattle.reg_export.specs.declared.encoding.Encoding.TheVariants.{Utf8}
use Rattle.reg_export.specs.NameTests.{are_chars}
use Rattle.reg_export.specs.Encodings.{char_bytes, encoded}
use Rattle.reg_export.specs.CharLaws.{plain}
use Rattle.reg_export.proofs.UnitsBack.{units_back}
use Rattle.reg_file.specs.Lines.{ansi_line, file_lines, is_ansi_by, unit_lines, utf8_line}
use Rattle.reg_round_trip.proofs.Units.{both_true, by_test, not_true}

-- no line feed
abbrev is_feed : ℕ → Bool
is_feed n = n == 10

abbrev NoFeed : ℕ → Type 0
NoFeed n = is_feed n ≡ false

-- items before the first part
abbrev onto_parts : List ℕ → List (List ℕ) → List (List ℕ)
onto_parts front [] = (front ++ []) ∷ []
onto_parts front (part ∷ parts) = (front ++ part) ∷ parts

none_onto : (parts : List (List ℕ)) → 0 < length parts → parts ≡ onto_parts [] parts
none_onto [] h = absurd (omega (arith, h))
none_onto (part ∷ parts) h = refl

one_onto : (n : ℕ) (front : List ℕ) (parts : List (List ℕ)) → onto_first n (onto_parts front parts) ≡ onto_parts (n ∷ front) parts
one_onto n front [] = refl
one_onto n front (part ∷ parts) = refl

front_split : (front back : List ℕ) → AllByRecursion NoFeed front → slice_split is_feed (front ++ back) ≡ onto_parts front (slice_split is_feed back)
front_split [] back h = let long = length-slice_split is_feed back in none_onto (slice_split is_feed back) (omega (arith, long))
front_split (n ∷ front) back h =
    ap (λ t. cond t ([] ∷ slice_split is_feed (front ++ back)) (onto_first n (slice_split is_feed (front ++ back)))) h.0 ∙ ap (onto_first n) (front_split front back h.1) ∙ one_onto n front (slice_split is_feed back)

-- Characters that are written one after another are parted at line feeds as what is written is.
module _ (f : ℕ → List ℕ) (feed : f 10 ≡ 10 ∷ []) (other : (c : ℕ) → NoFeed c → AllByRecursion NoFeed (f c)) where
  first_written : (c : ℕ) (parts : List (List ℕ)) → onto_parts (f c) (map (flat_map f) parts) ≡ map (flat_map f) (onto_first c parts)
  first_written c [] = refl
  first_written c (part ∷ parts) = refl

  by_feed : (c : ℕ) (cs : List ℕ) (t : Bool) → is_feed c ≡ t → slice_split is_feed (flat_map f cs) ≡ map (flat_map f) (slice_split is_feed cs)
      → slice_split is_feed (f c ++ flat_map f cs) ≡ map (flat_map f) (cond t ([] ∷ slice_split is_feed cs) (onto_first c (slice_split is_feed cs)))
  by_feed c cs true e same =
      let bytes : f c ≡ 10 ∷ [] = ap f ((Decides-eqb c 10).0 e) ∙ feed in
      ap (λ (front : List ℕ). slice_split is_feed (front ++ flat_map f cs)) bytes ∙ ap (λ (parts : List (List ℕ)). [] ∷ parts) same
  by_feed c cs false e same = front_split (f c) (flat_map f cs) (other c e) ∙ ap (onto_parts (f c)) same ∙ first_written c (slice_split is_feed cs)

  pub split_each : (cs : List ℕ) → slice_split is_feed (flat_map f cs) ≡ map (flat_map f) (slice_split is_feed cs)
  split_each [] = refl
  split_each (c ∷ cs) = by_feed c cs (is_feed c) refl (split_each cs)

-- what holds of all items holds of those of all parts
split_all : (P : ℕ → Type 0) (cs : List ℕ) → AllByRecursion P cs → AllByRecursion (AllByRecursion P) (slice_split is_feed cs)
split_all P [] h = (tt, tt)
split_all P (c ∷ cs) h =
    by_test (AllByRecursion (AllByRecursion P)) (is_feed c) ([] ∷ slice_split is_feed cs) (onto_first c (slice_split is_feed cs)) (λ e. (tt, split_all P cs h.1)) (λ e. onto_all (slice_split is_feed cs) (split_all P cs h.1))
  where
    onto_all : (parts : List (List ℕ)) → AllByRecursion (AllByRecursion P) parts → AllByRecursion (AllByRecursion P) (onto_first c parts)
    onto_all [] a = ((h.0, tt), tt)
    onto_all (part ∷ parts) a = ((h.0, a.0), a.1)

-- a line feed is written as itself, and no other character has one in it
past_ascii : (b : ℕ) → 128 ≤ b → NoFeed b
past_ascii b h = grind (arith, nat_tests, h)

abbrev two_bytes : ℕ → List ℕ
two_bytes c = (192 + c / 64) ∷ (128 + c % 64) ∷ []

abbrev three_bytes : ℕ → List ℕ
three_bytes c = (224 + c / 4096) ∷ (128 + (c / 64) % 64) ∷ (128 + c % 64) ∷ []

abbrev four_bytes : ℕ → List ℕ
four_bytes c = (240 + c / 262144) ∷ (128 + (c / 4096) % 64) ∷ (128 + (c / 64) % 64) ∷ (128 + c % 64) ∷ []

last_byte : (c : ℕ) → NoFeed (128 + c % 64)
last_byte c = past_ascii (128 + c % 64) (omega arith)

utf8_other : (c : ℕ) → NoFeed c → AllByRecursion NoFeed (encode_utf8 c)
unfolding encode_utf8
utf8_other c h =
    by_test (AllByRecursion NoFeed) (nat_lt c 128) (c ∷ []) (cond (nat_lt c 2048) (two_bytes c) (cond (nat_lt c 65536) (three_bytes c) (four_bytes c))) (λ one. (h, tt))
    (λ more. by_test (AllByRecursion NoFeed) (nat_lt c 2048) (two_bytes c) (cond (nat_lt c 65536) (three_bytes c) (four_bytes c)) (λ two. (past_ascii (192 + c / 64) (omega arith), (last_byte c, tt)))
    (λ again. by_test (AllByRecursion NoFeed) (nat_lt c 65536) (three_bytes c) (four_bytes c) (λ three. (past_ascii (224 + c / 4096) (omega arith), (last_byte (c / 64), (last_byte c, tt))))
    (λ four. (past_ascii (240 + c / 262144) (omega arith), (last_byte (c / 4096), (last_byte (c / 64), (last_byte c, tt)))))))

utf16_other : (c : ℕ) → NoFeed c → AllByRecursion NoFeed (encode_utf16 c)
utf16_other c h =
    by_test (AllByRecursion NoFeed) (nat_lt c 0x1_0000) (c ∷ []) ((0xD800 + (c - 0x1_0000) / 0x400) ∷ (0xDC00 + (c - 0x1_0000) % 0x400) ∷ []) (λ one. (h, tt))
    (λ two. (past_ascii (0xD800 + (c - 0x1_0000) / 0x400) (omega arith), (past_ascii (0xDC00 + (c - 0x1_0000) % 0x400) (omega arith), tt)))

-- one line
all_scalar : (cs : List ℕ) → scalars cs ≡ true → AllByRecursion (λ c. scalar c ≡ true) cs
all_scalar [] h = tt
all_scalar (c ∷ cs) h = let two = both_true (scalar c) (scalars cs) h in (two.0, all_scalar cs two.1)

scalars_from : (cs : List ℕ) → AllByRecursion (λ c. scalar c ≡ true) cs → scalars cs ≡ true
scalars_from [] all = refl
scalars_from (c ∷ cs) all = (λ i. all.0 i && scalars cs) ∙ scalars_from cs all.1

in_a_row : (cs : List ℕ) → flat_map encode_utf8 cs ≡ encode_utf8_all cs
in_a_row [] = refl
in_a_row (c ∷ cs) = ap (λ (bytes : List ℕ). encode_utf8 c ++ bytes) (in_a_row cs)

line_back : (cs : List ℕ) → scalars cs ≡ true → utf8_line (flat_map encode_utf8 cs) ≡ Some (flat_map encode_utf16 cs)
line_back cs h =
    ap utf8_line (in_a_row cs) ∙ ap (λ t. cond t (Some (flat_map encode_utf16 (chars (encode_utf8_all cs)))) None) (is_utf8-from_IsUtf8 (encode_utf8_all cs) (cs, (h, refl)))
    ∙ ap (λ (found : List ℕ). Some (flat_map encode_utf16 found)) (chars-encodes cs h)

lines_back : (parts : List (List ℕ)) → AllByRecursion (AllByRecursion (λ c. scalar c ≡ true)) parts → map utf8_line (map (flat_map encode_utf8) parts) ≡ map Some (map (flat_map encode_utf16) parts)
lines_back [] all = refl
lines_back (part ∷ parts) all =
    ap (λ line. line ∷ map utf8_line (map (flat_map encode_utf8) parts)) (line_back part (scalars_from part all.0)) ∙ ap (λ lines. Some (flat_map encode_utf16 part) ∷ lines) (lines_back parts all.1)

-- the lines of bytes in UTF-8
abbrev split_lines : List ℕ → List (Option (List ℕ))
split_lines bytes = map utf8_line (slice_split is_feed bytes)

-- units that are characters, by these
known_chars : (os : List (Option ℕ)) → list_all is_some os ≡ true → (cs : List ℕ) × (os ≡ map Some cs)
known_chars [] h = ([], refl)
known_chars (None ∷ os) h = absurd (not_true (both_true false (list_all is_some os) h).0)
known_chars (Some c ∷ os) h = let rest = known_chars os h in (c ∷ rest.0, ap (λ (more : List (Option ℕ)). Some c ∷ more) rest.1)

their_bytes : (cs : List ℕ) → flat_map char_bytes (map Some cs) ≡ flat_map encode_utf8 cs
their_bytes [] = refl
their_bytes (c ∷ cs) = ap (λ (bytes : List ℕ). encode_utf8 c ++ bytes) (their_bytes cs)

pub utf8_lines : (units : List ℕ) → AllByRecursion (λ u. u < 2 ^ 16) units → are_chars units ≡ true → split_lines (encoded Utf8 units) ≡ unit_lines units
utf8_lines units small are =
    let cs = known_chars (utf16_chars units) are in
    let back = units_back units small cs.0 cs.1 in
    let bytes : encoded Utf8 units ≡ flat_map encode_utf8 cs.0 = ap (λ (os : List (Option ℕ)). flat_map char_bytes os) cs.1 ∙ their_bytes cs.0 in
    let parts = slice_split is_feed cs.0 in
    ap split_lines bytes ∙ ap (map utf8_line) (split_each encode_utf8 (encode_ascii 10 (omega arith)) utf8_other cs.0)
    ∙ lines_back parts (split_all (λ c. scalar c ≡ true) cs.0 (all_scalar cs.0 back.1)) ∙ ap (map Some) (sym (split_each encode_utf16 refl utf16_other cs.0)) ∙ ap unit_lines back.0

-- a file that begins with `W` has no mark, and isn't one of the old form
first_byte : (rest : List ℕ) → encoded Utf8 (87 ∷ rest) ≡ 87 ∷ encoded Utf8 rest
first_byte rest =
    ap (λ (os : List (Option ℕ)). flat_map char_bytes os) (plain 87 rest (Some 87) (inl (omega arith)) refl) ∙ ap (λ (bytes : List ℕ). bytes ++ encoded Utf8 rest) (encode_ascii 87 (omega arith))

no_old_form : (found : List (List ℕ)) → is_ansi_by (onto_first 87 found) ≡ false
no_old_form [] = refl
no_old_form (part ∷ parts) = refl

unmarked : (bytes more : List ℕ) → bytes ≡ 87 ∷ more → file_lines bytes ≡ split_lines bytes
unmarked bytes more e =
    ap file_lines e ∙ ap (λ old. cond old (map ansi_line (slice_split is_feed (87 ∷ more))) (split_lines (87 ∷ more))) (no_old_form (slice_split is_feed more))
    ∙ sym (ap split_lines e)

pub read_utf8 : (rest : List ℕ) → AllByRecursion (λ u. u < 2 ^ 16) (87 ∷ rest) → are_chars (87 ∷ rest) ≡ true → file_lines (encoded Utf8 (87 ∷ rest)) ≡ unit_lines (87 ∷ rest)
read_utf8 rest small are = unmarked (encoded Utf8 (87 ∷ rest)) (encoded Utf8 rest) (first_byte rest) ∙ utf8_lines (87 ∷ rest) small are
