-- Texts, written and parsed.
use Rattle.std.proofs.Common.{◌≡◌, ℕ, zero, suc, ◌+◌, ◌-◌, ◌<◌, ◌%◌, Bool, true, false, not, ◌&&◌, ◌==◌, cond, List, [], ◌∷◌, ◌++◌, length, map, drop, get_or, Option, Some, None, refl, sym, ◌∙◌, ap, subst, arith, inl, inr, append_assoc, length-append, codes}
use Rattle.std.specs.Prelude.{chars, ◌||◌, nat_lt}
use Rattle.std.specs.List.{flat_map, list_all}
use Rattle.std.specs.Char.{encode_utf8}
use Rattle.std.specs.Char.Escape.{encode_utf16}
use Rattle.std.specs.Int.{w16, to_le_bytes, from_le_bytes}
use Rattle.std.specs.Str.{encode_utf8_all}
use Rattle.std.proofs.Math.Utf8.{scalar, scalars}
use Rattle.std.proofs.lemmas.Bool.{and_parts, and_from, cases_Bool, eqb-true, not-true, false≢true, or_cases, ltb-true}
use Rattle.std.proofs.lemmas.List.{append-nil, take-append-drop}
use Rattle.std.proofs.lemmas.List.Concat.{flat_map-append}
use Rattle.std.proofs.lemmas.Nat.{le_bytes_2}
use Rattle.std.proofs.lemmas.Str.{utf16_chars-nil, chars-encodes, chars-nil, encode_ascii, encodes-append}
use Rattle.std.proofs.lemmas.Slice.Eq.{bytes_eq-Decides}
use Rattle.hex.specs.Hex.{IsBytes}
use Rattle.reg_export.specs.ByteUnits.{units_of, are_whole, ends_in_zero, front_units}
use Rattle.value_syntax.specs.Data.{char_bytes, text_data, texts_data, with_zeros}
use Rattle.value_syntax.specs.Printed.{is_shown, is_shown_in, begins_with_char, has_separator, text_chars, char_text, shown_text, is_terminated, is_text, are_texts, is_list}
use Rattle.value_syntax.proofs.Separators.{plain_first, plain_second}
use Rattle.reg_export.proofs.UnitsBack.{AreUnits, units_back}

-- ---- bytes and units

pair_small : (low high : ℕ) → low < 256 → high < 256 → (i : ℕ) → get_or (low ∷ high ∷ []) i 0 < 256
pair_small low high l h zero = l
pair_small low high l h (suc zero) = h
pair_small low high l h (suc (suc i)) = omega arith

bytes_back : (bytes : List ℕ) → length bytes % 2 ≡ 0 → IsBytes bytes → flat_map (to_le_bytes w16) (units_of bytes) ≡ bytes
bytes_back [] even h = refl
bytes_back (low ∷ []) even h = absurd (omega arith)
bytes_back (low ∷ high ∷ bytes) even h =
    ap (λ t. t ++ flat_map (to_le_bytes w16) (units_of bytes)) (le_bytes_2 (low ∷ high ∷ []) (from_le_bytes w16 (low ∷ high ∷ [])) refl (pair_small low high (h 0) (h 1)) refl)
    ∙ ap (λ t. low ∷ high ∷ t) (bytes_back bytes (omega (arith, even)) (λ i. h (suc (suc i))))

unit_small : (low high : ℕ) → low < 256 → high < 256 → from_le_bytes w16 (low ∷ high ∷ []) < 0x1_0000
unit_small low high l h = omega (arith, l, h)

units_small : (bytes : List ℕ) → IsBytes bytes → AreUnits (units_of bytes)
units_small [] h = tt
units_small (low ∷ []) h = tt
units_small (low ∷ high ∷ bytes) h = (unit_small low high (h 0) (h 1), units_small bytes (λ i. h (suc (suc i))))

-- the bytes of characters are those of their units
in_units : (cs : List ℕ) → flat_map char_bytes cs ≡ flat_map (to_le_bytes w16) (flat_map encode_utf16 cs)
in_units [] = refl
in_units (c ∷ cs) = ap (λ t. char_bytes c ++ t) (in_units cs) ∙ sym (flat_map-append (to_le_bytes w16) (encode_utf16 c) (flat_map encode_utf16 cs))

front_is_bytes : (front rest : List ℕ) → IsBytes (front ++ rest) → IsBytes front
front_is_bytes [] rest h i = omega arith
front_is_bytes (b ∷ front) rest h zero = h 0
front_is_bytes (b ∷ front) rest h (suc i) = front_is_bytes front rest (λ n. h (suc n)) i

ends_back : (bytes : List ℕ) → ends_in_zero bytes ≡ true → front_units bytes ++ 0 ∷ 0 ∷ [] ≡ bytes
ends_back bytes h =
    let end : (0 ∷ 0 ∷ []) ≡ drop (length bytes - 2) bytes = (bytes_eq-Decides (0 ∷ 0 ∷ []) (drop (length bytes - 2) bytes)).0 h in
    ap (λ t. front_units bytes ++ t) end ∙ take-append-drop (length bytes - 2) bytes

-- ---- characters that are shown

-- a character as it is written: the one between two texts as two characters
escape : ℕ → List ℕ
escape c = cond (c == 0) (92 ∷ 48 ∷ []) (c ∷ [])

escaped : List ℕ → List ℕ
escaped cs = flat_map escape cs

known : (among : Bool) (os : List (Option ℕ)) → list_all (is_shown_in among) os ≡ true → (cs : List ℕ) × (os ≡ map Some cs)
known among [] h = ([], refl)
known among (None ∷ os) h = absurd (false≢true (and_parts false (list_all (is_shown_in among) os) h).0)
known among (Some c ∷ os) h =
    let more = known among os (and_parts (is_shown_in among (Some c)) (list_all (is_shown_in among) os) h).1 in (c ∷ more.0, ap (λ t. Some c ∷ t) more.1)

written_char : (c : ℕ) → char_text (Some c) ≡ encode_utf8_all (escape c)
unfolding escape
written_char c = by_test (c == 0)
  where
    backslash_zero : codes "\\0" ≡ encode_utf8_all (92 ∷ 48 ∷ [])
    backslash_zero = sym (ap (λ t. t ++ (encode_utf8 48 ++ [])) (encode_ascii 92 (omega arith)) ∙ ap (λ t. 92 ∷ (t ++ [])) (encode_ascii 48 (omega arith)))

    by_test : (t : Bool) → cond t (codes "\\0") (encode_utf8 c) ≡ encode_utf8_all (cond t (92 ∷ 48 ∷ []) (c ∷ []))
    by_test true = backslash_zero
    by_test false = sym (append-nil (encode_utf8 c))

written_chars : (cs : List ℕ) → flat_map char_text (map Some cs) ≡ encode_utf8_all (escaped cs)
unfolding escaped
written_chars [] = refl
written_chars (c ∷ cs) = ap (λ t. t ++ flat_map char_text (map Some cs)) (written_char c) ∙ ap (λ t. encode_utf8_all (escape c) ++ t) (written_chars cs) ∙ sym (encodes-append (escape c) (escaped cs))

scalars_both : (front rest : List ℕ) → scalars front ≡ true → scalars rest ≡ true → scalars (front ++ rest) ≡ true
scalars_both [] rest h k = k
scalars_both (c ∷ front) rest h k = let parts = and_parts (scalar c) (scalars front) h in and_from (scalar c) (scalars (front ++ rest)) parts.0 (scalars_both front rest parts.1 k)

escape_scalars : (c : ℕ) → scalar c ≡ true → scalars (escape c) ≡ true
unfolding escape
escape_scalars c h = by_test (c == 0)
  where
    by_test : (t : Bool) → scalars (cond t (92 ∷ 48 ∷ []) (c ∷ [])) ≡ true
    by_test true = refl
    by_test false = and_from (scalar c) true h refl

escaped_scalars : (cs : List ℕ) → scalars cs ≡ true → scalars (escaped cs) ≡ true
unfolding escaped
escaped_scalars [] h = refl
escaped_scalars (c ∷ cs) h = let parts = and_parts (scalar c) (scalars cs) h in scalars_both (escape c) (escaped cs) (escape_scalars c parts.0) (escaped_scalars cs parts.1)

-- what is written is read as the characters that were written
shown_chars : (cs : List ℕ) → scalars cs ≡ true → chars (flat_map char_text (map Some cs)) ≡ escaped cs
shown_chars cs h = ap chars (written_chars cs) ∙ chars-encodes (escaped cs) (escaped_scalars cs h)

-- no character of a text alone is 0
not_escaped : (c : ℕ) → is_shown_in false (Some c) ≡ true → escape c ≡ c ∷ []
unfolding escape
not_escaped c h = elim (cases_Bool (c == 0)) [
  | inl zero_char ↦ absurd (false≢true (sym (ap is_shown (eqb-true c 0 zero_char)) ∙ h))
  | inr other ↦ ap (λ t. cond t (92 ∷ 48 ∷ []) (c ∷ [])) other
]

plain_text : (cs : List ℕ) → list_all (is_shown_in false) (map Some cs) ≡ true → escaped cs ≡ cs
unfolding escaped
plain_text [] h = refl
plain_text (c ∷ cs) h =
    let parts = and_parts (is_shown_in false (Some c)) (list_all (is_shown_in false) (map Some cs)) h in
    ap (λ t. t ++ escaped cs) (not_escaped c parts.0) ∙ ap (λ t. c ∷ t) (plain_text cs parts.1)

-- ---- a text

terminated : (bytes : List ℕ) → is_terminated bytes ≡ true → (length bytes % 2 ≡ 0) × (front_units bytes ++ 0 ∷ 0 ∷ [] ≡ bytes)
terminated bytes h = let parts = and_parts (are_whole bytes) (ends_in_zero bytes) h in (eqb-true (length bytes % 2) 0 parts.0, ends_back bytes parts.1)

even_front : (front : List ℕ) (bytes : List ℕ) → front ++ 0 ∷ 0 ∷ [] ≡ bytes → length bytes % 2 ≡ 0 → length front % 2 ≡ 0
even_front front bytes e even = let len : length front + 2 ≡ length bytes = sym (length-append front (0 ∷ 0 ∷ [])) ∙ ap length e in omega (arith, len, even)

-- characters of whole bytes, all known, have these bytes
bytes_of_chars : (bytes cs : List ℕ) → length bytes % 2 ≡ 0 → IsBytes bytes → text_chars bytes ≡ map Some cs → (flat_map char_bytes cs ≡ bytes) × (scalars cs ≡ true)
bytes_of_chars bytes cs even small h =
    let back = units_back (units_of bytes) (units_small bytes small) cs h in
    (in_units cs ∙ ap (flat_map (to_le_bytes w16)) back.0 ∙ bytes_back bytes even small, back.1)

pub text_parses : (bytes : List ℕ) → is_text bytes ≡ true → IsBytes bytes → text_data (chars (shown_text (front_units bytes))) ≡ bytes
text_parses bytes h small =
    let front = front_units bytes in
    let parts = and_parts (is_terminated bytes) (list_all (is_shown_in false) (text_chars front)) h in
    let whole = terminated bytes parts.0 in
    let cs = known false (text_chars front) parts.1 in
    let back = bytes_of_chars front cs.0 (even_front front bytes whole.1 whole.0) (front_is_bytes front (0 ∷ 0 ∷ []) (subst IsBytes (sym whole.1) small)) cs.1 in
    let read : chars (shown_text front) ≡ cs.0 = ap (λ os. chars (flat_map char_text os)) cs.1 ∙ shown_chars cs.0 back.1 ∙ plain_text cs.0 (ap (list_all (is_shown_in false)) (sym cs.1) ∙ parts.1) in
    ap text_data read ∙ ap (λ t. t ++ 0 ∷ 0 ∷ []) back.0 ∙ whole.1

-- ---- a list of texts

or_false : (a b : Bool) → (a || b) ≡ false → (a ≡ false) × (b ≡ false)
or_false true b h = absurd (false≢true (sym h))
or_false false b h = (refl, h)

no_pair : (b : Bool) → (true && b) ≡ false → b ≡ false
no_pair b h = h

-- after a backslash no escaped text begins with `0`
backslash_then : (c : ℕ) (cs : List ℕ) → begins_with_char 48 (map Some cs) ≡ false → with_zeros (c ∷ escaped cs) ≡ c ∷ with_zeros (escaped cs)
unfolding escaped escape
backslash_then c [] h = refl
backslash_then c (d ∷ ds) h = by_test (d == 0)
  where
    by_test : (t : Bool) → with_zeros (c ∷ (cond t (92 ∷ 48 ∷ []) (d ∷ []) ++ flat_map escape ds)) ≡ c ∷ with_zeros (cond t (92 ∷ 48 ∷ []) (d ∷ []) ++ flat_map escape ds)
    by_test true = plain_second c 92 (48 ∷ flat_map escape ds) refl
    by_test false = plain_second c d (flat_map escape ds) h

other_char : (c : ℕ) (cs : List ℕ) → ((c == 92) && begins_with_char 48 (map Some cs)) ≡ false → with_zeros (c ∷ escaped cs) ≡ c ∷ with_zeros (escaped cs)
other_char c cs h = elim (cases_Bool (c == 92)) [
  | inl is ↦ backslash_then c cs (ap (λ t. t && begins_with_char 48 (map Some cs)) (sym is) ∙ h)
  | inr isnt ↦ plain_first c (escaped cs) isnt
]

unescaped : (cs : List ℕ) → has_separator (map Some cs) ≡ false → with_zeros (escaped cs) ≡ cs
unfolding escaped escape
unescaped [] h = refl
unescaped (c ∷ cs) h =
    let parts = or_false ((c == 92) && begins_with_char 48 (map Some cs)) (has_separator (map Some cs)) h in
    let more : with_zeros (escaped cs) ≡ cs = unescaped cs parts.1 in
    elim (cases_Bool (c == 0)) [
      | inl is ↦ ap (λ t. with_zeros (cond t (92 ∷ 48 ∷ []) (c ∷ []) ++ flat_map escape cs)) is ∙ ap (λ t. 0 ∷ t) more ∙ ap (λ d. d ∷ cs) (sym (eqb-true c 0 is))
      | inr isnt ↦ ap (λ t. with_zeros (cond t (92 ∷ 48 ∷ []) (c ∷ []) ++ flat_map escape cs)) isnt ∙ other_char c cs parts.0 ∙ ap (λ t. c ∷ t) more
    ]

-- texts of one character or more
some_chars : (cs value : List ℕ) (bytes : List ℕ) → with_zeros value ≡ cs → flat_map char_bytes cs ≡ bytes → 0 < length bytes → texts_data value ≡ bytes ++ 0 ∷ 0 ∷ 0 ∷ 0 ∷ []
some_chars cs [] bytes e f some = absurd (let none : 0 ≡ length bytes = ap (λ list. length (flat_map char_bytes list)) e ∙ ap length f in omega (arith, none, some))
some_chars cs (c ∷ value) bytes e f some = ap (λ list. flat_map char_bytes list ++ 0 ∷ 0 ∷ 0 ∷ 0 ∷ []) e ∙ ap (λ t. t ++ 0 ∷ 0 ∷ 0 ∷ 0 ∷ []) f

pub list_parses : (bytes : List ℕ) → is_list bytes ≡ true → IsBytes bytes → texts_data (chars (shown_text (front_units (front_units bytes)))) ≡ bytes
list_parses bytes h small =
    let front = front_units bytes in
    let parts = and_parts (is_terminated bytes) ((length front == 0) || (ends_in_zero front && are_texts (front_units front))) h in
    let whole = terminated bytes parts.0 in
    elim (or_cases (length front == 0) (ends_in_zero front && are_texts (front_units front)) parts.1) [
      | inl none ↦ no_texts front whole.1 (eqb-true (length front) 0 none)
      | inr some ↦ texts front whole.0 whole.1 some
    ]
  where
    no_texts : (front : List ℕ) → front ++ 0 ∷ 0 ∷ [] ≡ bytes → length front ≡ 0 → texts_data (chars (shown_text (front_units front))) ≡ bytes
    no_texts [] e none = ap (λ os. texts_data (chars (flat_map char_text os))) utf16_chars-nil ∙ ap texts_data chars-nil ∙ e
    no_texts (b ∷ front) e none = absurd (omega arith)

    texts : (front : List ℕ) → length bytes % 2 ≡ 0 → front ++ 0 ∷ 0 ∷ [] ≡ bytes → (ends_in_zero front && are_texts (front_units front)) ≡ true → texts_data (chars (shown_text (front_units front))) ≡ bytes
    texts front even e some =
        let units = front_units front in
        let parts = and_parts (ends_in_zero front) (are_texts units) some in
        let tests = and_parts (nat_lt 0 (length units) && list_all (is_shown_in true) (text_chars units)) (not (has_separator (text_chars units))) parts.1 in
        let shown = and_parts (nat_lt 0 (length units)) (list_all (is_shown_in true) (text_chars units)) tests.0 in
        let ends : units ++ 0 ∷ 0 ∷ [] ≡ front = ends_back front parts.0 in
        let front_bytes : IsBytes front = front_is_bytes front (0 ∷ 0 ∷ []) (subst IsBytes (sym e) small) in
        let cs = known true (text_chars units) shown.1 in
        let back = bytes_of_chars units cs.0 (even_front units front ends (even_front front bytes e even)) (front_is_bytes units (0 ∷ 0 ∷ []) (subst IsBytes (sym ends) front_bytes)) cs.1 in
        let value : chars (shown_text units) ≡ escaped cs.0 = ap (λ os. chars (flat_map char_text os)) cs.1 ∙ shown_chars cs.0 back.1 in
        let read : with_zeros (escaped cs.0) ≡ cs.0 = unescaped cs.0 (ap has_separator (sym cs.1) ∙ not-true _ tests.1) in
        ap texts_data value ∙ some_chars cs.0 (escaped cs.0) units read back.0 (ltb-true 0 (length units) shown.0)
        ∙ sym (append_assoc units (0 ∷ 0 ∷ []) (0 ∷ 0 ∷ [])) ∙ ap (λ t. t ++ 0 ∷ 0 ∷ []) ends ∙ e
