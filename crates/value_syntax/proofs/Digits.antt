-- Words of digits of a base.
use Rattle.std.proofs.Common.{◌≡◌, ℕ, zero, suc, ◌<◌, ◌≤◌, ◌^◌, Bool, true, false, ◌&&◌, if◌then◌else◌, List, [], ◌∷◌, length, Some, None, Err, refl, sym, ap, subst, arith, inl, inr}
use Rattle.std.specs.Prelude.{nat_lt, nat_le}
use Rattle.std.specs.List.{list_all}
use Rattle.std.specs.Char.{is_digit, digit_value}
use Rattle.std.specs.Str.{IsAscii, IsUtf8}
use Rattle.std.specs.Str.Parse.{digits_value, AllDigits, IsNumeral, ParsesUnsigned, without_leading_plus}
use Rattle.std.proofs.lemmas.Bool.{and_parts, cases_lt, ltb-true, leb-true, le-ltb}
use Rattle.std.proofs.lemmas.Str.{IsUtf8-from_ascii}
use Rattle.std.proofs.lemmas.Str.Parse.{without_leading_plus_none}
use Rattle.value_syntax.specs.TypeWords.{number_in}

-- each byte is a digit
abbrev pub AreDigits : ℕ → List ℕ → Type 0
AreDigits base word = list_all (λ c. is_digit c base) word ≡ true

no_digit : (c : ℕ) → 123 ≤ c → digit_value c ≡ 36
no_digit c h = rw (le-ltb c 48 (omega arith), le-ltb c 58 (omega arith), le-ltb c 65 (omega arith), le-ltb c 91 (omega arith), le-ltb c 97 (omega arith), le-ltb c 123 h)

below : (base c : ℕ) → is_digit c base ≡ true → digit_value c < base
below base c h = ltb-true (digit_value c) base h

digit_is_ascii : (base c : ℕ) → base ≤ 36 → is_digit c base ≡ true → c < 128
digit_is_ascii base c high h = elim (cases_lt c 123) [
  | inl less ↦ omega arith
  | inr more ↦ let value : digit_value c ≡ 36 = no_digit c more in let small : digit_value c < base = below base c h in absurd (omega (arith, value, small, high))
]

ascii : (base : ℕ) (word : List ℕ) → base ≤ 36 → AreDigits base word → IsAscii word
ascii base [] high h i = omega arith
ascii base (c ∷ cs) high h zero = digit_is_ascii base c high (and_parts _ _ h).0
ascii base (c ∷ cs) high h (suc i) = ascii base cs high (and_parts _ _ h).1 i

-- digits are text
pub digits_are_text : (base : ℕ) (word : List ℕ) → base ≤ 36 → AreDigits base word → IsUtf8 word
digits_are_text base word high h = IsUtf8-from_ascii word (ascii base word high h)

pub all_digits : (base : ℕ) (word : List ℕ) → AreDigits base word → AllDigits base word
all_digits base [] h = tt
all_digits base (c ∷ cs) h = let parts = and_parts (is_digit c base) (list_all (λ d. is_digit d base) cs) h in (below base c parts.0, all_digits base cs parts.1)

-- no sign stands before digits
pub no_plus : (base : ℕ) (word : List ℕ) → base ≤ 36 → AreDigits base word → without_leading_plus word ≡ word
no_plus base [] high h = refl
no_plus base (c ∷ cs) high h = without_leading_plus_none (c ∷ cs) (λ plus.
    let small : digit_value c < base = below base c (and_parts (is_digit c base) (list_all (λ d. is_digit d base) cs) h).0 in
    let value : digit_value c ≡ 36 = ap digit_value plus in
    absurd (omega (arith, small, value, high)))

no_number : (b : Bool) (n : ℕ) → (b ≡ true → ⊥) → (if b then Some n else None) ≡ None
no_number true n h = absurd (h refl)
no_number false n h = refl

too_large : (base most : ℕ) (word : List ℕ) → most < 2 ^ 64 → (IsNumeral base word × (digits_value base word < 2 ^ 64) → ⊥) → None ≡ number_in base most word
too_large base most word fits none = sym (no_number _ _ (λ all.
    let parts = and_parts (nat_lt 0 (length word) && list_all (λ c. is_digit c base) word) (nat_le (digits_value base word) most) all in
    let front = and_parts (nat_lt 0 (length word)) (list_all (λ c. is_digit c base) word) parts.0 in
    let within : digits_value base word ≤ most = leb-true _ _ parts.1 in
    none ((ltb-true _ _ front.0, all_digits base word front.1), omega (arith, within, fits))))

-- digits that don't parse are no number that fits
pub not_parsed : {E : Type 0} (base most : ℕ) (word : List ℕ) (e : E) → base ≤ 36 → most < 2 ^ 64 → AreDigits base word → ParsesUnsigned 64 base word (Err e) → None ≡ number_in base most word
not_parsed base most word e high fits h parses = too_large base most word fits (subst (λ w. (IsNumeral base w × (digits_value base w < 2 ^ 64)) → ⊥) (no_plus base word high h) parses)
