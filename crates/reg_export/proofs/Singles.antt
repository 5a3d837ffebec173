-- Characters by their units, and as UTF-8.
use Rattle.std.proofs.Common.{◌≡◌, ℕ, ◌<◌, ◌≤◌, Bool, true, false, cond, ◌&&◌, List, [], ◌∷◌, ◌++◌, Option, Some, None, Result, OnOk, refl, sym, subst, ◌∙◌, ap, arith, inl, inr}
use Rattle.std.specs.Prelude.{◌⊎◌, ◌==◌, ◌||◌, is_some, IsSomeAnd, MatchOption}
use Rattle.std.specs.Option.{SomeIff}
use Rattle.std.specs.Char.{InScalarRange, OutOfScalarRange, encode_utf8}
use Rattle.std.specs.Char.Utf16.{utf16_chars, surrogate_pair_char, lone_unit_char}
use Rattle.std.specs.Io.KnownBytes.{Appends}
use Rattle.std.specs.List.{AllByRecursion, flat_map, list_all}
use Rattle.std.proofs.str.Utf16.{lone_unit_char_surrogate}
use Rattle.std.proofs.lemmas.Bool.{and_parts, ltb-true}
use Rattle.std.proofs.lemmas.Bool.Decides.{nat_tests}
use Rattle.std.proofs.lemmas.List.{append-nil}
use Rattle.std.proofs.lemmas.List.Concat.{flat_map-append}
use Rattle.std.proofs.lemmas.Str.{utf16_chars-nil, utf16_chars_lone, utf16_chars_pair}
use Rattle.key_walk.proofs.Rows.{on_ok}
use Rattle.reg_export.specs.declared.characters.First.{First}
use Rattle.reg_export.specs.declared.characters.First.TheVariants.{Pair, Single}
use Rattle.reg_export.specs.declared.encoding.Encoding.TheVariants.{Utf8}
use Rattle.reg_export.specs.NameTests.{are_chars}
use Rattle.reg_export.specs.Encodings.{char_bytes, is_ascii, Prints}
use Rattle.reg_export.specs.Characters.{IsFirst, IsSurrogatePair, IsWhole, units_in}
use Rattle.reg_export.specs.CharLaws.{are_chars_both, are_chars_none, ascii_chars, ascii_encoded, by_chars, one_char, pair_char}
use Rattle.reg_export.specs.RegTexts.{escaped_unit}

abbrev all_known : List (Option ℕ) → Bool
all_known os = list_all is_some os

-- units of one character were printed as it
prints_char : (old new : Option (List ℕ)) (units : List ℕ) (c : ℕ) → utf16_chars units ≡ Some c ∷ [] → Appends old new (encode_utf8 c) → Prints Utf8 old new units
prints_char old new units c e written = (
  ap all_known e,
  subst (Appends old new) (sym (append-nil (encode_utf8 c)) ∙ sym (ap (flat_map char_bytes) e)) written,
)

pub prints_single : (old new : Option (List ℕ)) (u c : ℕ) → InScalarRange u → c ≡ u → Appends old new (encode_utf8 c) → Prints Utf8 old new (u ∷ [])
prints_single old new u c (inl low) e written = prints_char old new (u ∷ []) u (one_char u (inl low)) (subst (λ (d : ℕ). Appends old new (encode_utf8 d)) e written)
prints_single old new u c (inr high) e written = prints_char old new (u ∷ []) u (one_char u (inr high.0)) (subst (λ (d : ℕ). Appends old new (encode_utf8 d)) e written)

pub prints_joined : (old new : Option (List ℕ)) (high low c : ℕ) → IsSurrogatePair high low → c ≡ surrogate_pair_char high low → Appends old new (encode_utf8 c) → Prints Utf8 old new (high ∷ low ∷ [])
prints_joined old new high low c is e written =
    prints_char old new (high ∷ low ∷ []) (surrogate_pair_char high low) (pair_char high low is) (subst (λ (d : ℕ). Appends old new (encode_utf8 d)) e written)

-- ASCII was printed as it is
all_small : (text : List ℕ) → list_all is_ascii text ≡ true → AllByRecursion (λ u. u < 128) text
all_small [] h = tt
all_small (u ∷ text) h = let parts = and_parts (is_ascii u) (list_all is_ascii text) h in (ltb-true u 128 parts.0, all_small text parts.1)

pub prints_ascii : (old new : Option (List ℕ)) (text : List ℕ) → list_all is_ascii text ≡ true → Appends old new text → Prints Utf8 old new text
prints_ascii old new text h written = (ascii_chars text (all_small text h), subst (Appends old new) (sym (ascii_encoded text (all_small text h))) written)

-- whether units are characters, from the first of them
and_true : (b c : Bool) → (b && c) ≡ ((b && true) && c)
and_true true c = refl
and_true false c = refl

pub first_decides : (first : First) (rest : List ℕ) → IsFirst first → IsWhole first rest → are_chars (units_in first ++ rest) ≡ (are_chars (units_in first) && are_chars rest)
first_decides (Pair high low) rest is whole = ap all_known (utf16_chars_pair high low rest is) ∙ ap (λ (b : Bool). b && are_chars rest) (sym (ap all_known (pair_char high low is)))
first_decides (Single u) rest is whole =
    let alone : utf16_chars (u ∷ []) ≡ lone_unit_char u ∷ [] = utf16_chars_lone u [] (λ pair. absurd (let zero_low : 0xdc00 ≤ 0 = pair.2 in omega (arith, zero_low))) ∙ ap (λ (os : List (Option ℕ)). lone_unit_char u ∷ os) utf16_chars-nil in
    ap all_known (utf16_chars_lone u rest whole) ∙ and_true (is_some (lone_unit_char u)) (are_chars rest) ∙ ap (λ (b : Bool). b && are_chars rest) (sym (ap all_known alone))

pub pair_is_char : (high low : ℕ) → IsSurrogatePair high low → are_chars (high ∷ low ∷ []) ≡ true
pair_is_char high low is = ap all_known (pair_char high low is)

pub single_is_char : (u : ℕ) → (u < 0xd800) ⊎ (0xe000 ≤ u) → are_chars (u ∷ []) ≡ true
single_is_char u either = ap all_known (one_char u either)

pub half_is_none : (u : ℕ) → 0xd800 ≤ u → u < 0xe000 → are_chars (u ∷ []) ≡ false
half_is_none u from below =
    ap all_known (utf16_chars_lone u [] (λ pair. absurd (let zero_low : 0xdc00 ≤ 0 = pair.2 in omega (arith, zero_low))) ∙ ap (λ (o : Option ℕ). o ∷ utf16_chars []) (lone_unit_char_surrogate u from below))

-- surrogates get no backslash
no_escape : (u : ℕ) → 0xd800 ≤ u → (u == 34 || u == 92) ≡ false
no_escape u from = grind (arith, nat_tests)

pub pair_escaped : (high low : ℕ) → IsSurrogatePair high low → flat_map escaped_unit (high ∷ low ∷ []) ≡ high ∷ low ∷ []
pair_escaped high low is = rw (no_escape high is.0, no_escape low (omega (arith, is.2))) refl

-- characters with a backslash before quotes and backslashes are characters
escaped_char : (u : ℕ) → are_chars (u ∷ []) ≡ true → are_chars (escaped_unit u) ≡ true
escaped_char u h = by_test (u == 34 || u == 92)
  where
    by_test : (t : Bool) → are_chars (cond t (92 ∷ u ∷ []) (u ∷ [])) ≡ true
    by_test true = are_chars_both (92 ∷ []) (u ∷ []) (single_is_char 92 (inl (omega arith))) h
    by_test false = h

pub escaped_chars : (text : List ℕ) → are_chars text ≡ true → are_chars (flat_map escaped_unit text) ≡ true
escaped_chars text h =
    by_chars (λ us. are_chars (flat_map escaped_unit us) ≡ true) are_chars_none
    (λ u us either are rest. are_chars_both (escaped_unit u) (flat_map escaped_unit us) (escaped_char u (single_is_char u either)) rest)
    (λ u v us is are rest.
    let parts : flat_map escaped_unit (u ∷ v ∷ us) ≡ (u ∷ v ∷ []) ++ flat_map escaped_unit us =
    flat_map-append escaped_unit (u ∷ v ∷ []) us ∙ ap (λ (front : List ℕ). front ++ flat_map escaped_unit us) (pair_escaped u v is) in
    subst (λ (bytes : List ℕ). are_chars bytes ≡ true) (sym parts) (are_chars_both (u ∷ v ∷ []) (flat_map escaped_unit us) (pair_is_char u v is) rest))
    text h

-- a character that was found was written
pub found_single : {T E : Type 0} (answer : Result T E) (found : Option ℕ) (P : Type 0) (u code : ℕ) (old new : Option (List ℕ)) → code ≡ u → SomeIff found P code → MatchOption found (OutOfScalarRange code) (λ _. InScalarRange code)
    → OnOk answer (IsSomeAnd found (λ c. Appends old new (encode_utf8 c))) → OnOk answer (Prints Utf8 old new (u ∷ []))
found_single answer None P u code old new same value cases written = on_ok answer (λ none. absurd none) written
found_single answer (Some c) P u code old new same value cases written =
    on_ok answer (λ it. subst (λ (v : ℕ). Prints Utf8 old new (v ∷ [])) same (prints_single old new code c cases value.1 it)) written

pub found_joined : {T E : Type 0} (answer : Result T E) (found : Option ℕ) (high low : ℕ) (old new : Option (List ℕ)) → IsSurrogatePair high low → found ≡ Some (surrogate_pair_char high low)
    → OnOk answer (IsSomeAnd found (λ c. Appends old new (encode_utf8 c))) → OnOk answer (Prints Utf8 old new (high ∷ low ∷ []))
found_joined answer found high low old new is e written =
    on_ok answer (λ it. prints_joined old new high low (surrogate_pair_char high low) is refl it) (subst (λ (o : Option ℕ). OnOk answer (IsSomeAnd o (λ c. Appends old new (encode_utf8 c)))) e written)
