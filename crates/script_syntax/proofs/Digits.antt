-- Words of decimal digits.
use Rattle.std.proofs.Common.{◌≡◌, ℕ, zero, suc, ◌<◌, ◌≤◌, ◌^◌, Bool, true, false, ◌&&◌, if◌then◌else◌, List, [], ◌∷◌, length, Some, None, Err, refl, arith, sym}
use Rattle.std.specs.Prelude.{nat_lt, nat_le}
use Rattle.std.specs.List.{list_all}
use Rattle.std.specs.Char.{is_ascii_digit}
use Rattle.std.specs.Int.{IsInRange}
use Rattle.std.specs.Str.{IsAscii, IsUtf8}
use Rattle.std.specs.Str.Parse.{digits_value, ParsesUnsigned}
use Rattle.std.proofs.lemmas.Bool.{and_parts, and_from}
use Rattle.std.proofs.lemmas.Bool.Decides.{nat_tests}
use Rattle.std.proofs.lemmas.Str.{IsUtf8-from_ascii}
use Rattle.std.proofs.lemmas.Str.Parse.{IsNumeralModel, numerals_by_value, parse_digits}
use Rattle.script_syntax.specs.Words.{number_of}

-- each byte is a digit
abbrev pub AreDigits : List ℕ → Type 0
AreDigits word = list_all is_ascii_digit word ≡ true

in_range : (c : ℕ) → is_ascii_digit c ≡ true → IsInRange 48 57 c
in_range c h =
    let parts = and_parts (nat_le 48 c) (nat_le c 57) h in
    (grind (arith, nat_tests, parts.0), grind (arith, nat_tests, parts.1))

digit : (c : ℕ) → IsInRange 48 57 c → is_ascii_digit c ≡ true
digit c h = and_from (nat_le 48 c) (nat_le c 57) (grind (arith, nat_tests, h.0)) (grind (arith, nat_tests, h.1))

numerals : IsNumeralModel AreDigits (digits_value 10)
numerals = numerals_by_value AreDigits (record {
  empty = refl;
  parts = λ c cs h. let both = and_parts _ _ h in (in_range c both.0, both.1);
  more = λ c cs r h. and_from _ _ (digit c r) h;
})

ascii : (word : List ℕ) → AreDigits word → IsAscii word
ascii [] h i = omega arith
ascii (c ∷ cs) h zero = let parts = and_parts _ _ h in let r = in_range c parts.0 in omega (arith, r.1)
ascii (c ∷ cs) h (suc i) = ascii cs (and_parts _ _ h).1 i

-- digits are text
pub digits_are_text : (word : List ℕ) → AreDigits word → IsUtf8 word
digits_are_text word h = IsUtf8-from_ascii word (ascii word h)

no_number : (b : Bool) (n : ℕ) → (b ≡ true → ⊥) → (if b then Some n else None) ≡ None
no_number true n h = absurd (h refl)
no_number false n h = refl

too_large : (most : ℕ) (word : List ℕ) → most < 2 ^ 64 → ((0 < length word) × (digits_value 10 word < 2 ^ 64) → ⊥) → None ≡ number_of most word
too_large most word fits none = sym (no_number _ _ (λ all.
    let parts = and_parts (nat_lt 0 (length word) && list_all is_ascii_digit word) (nat_le (digits_value 10 word) most) all in
    let front = and_parts (nat_lt 0 (length word)) (list_all is_ascii_digit word) parts.0 in
    let some : 0 < length word = grind (arith, nat_tests, front.0) in
    let within : digits_value 10 word ≤ most = grind (arith, nat_tests, parts.1) in
    none (some, omega (arith, within, fits))))

-- digits that don't parse are no number that fits
pub not_parsed : {E : Type 0} (most : ℕ) (word : List ℕ) (e : E) → most < 2 ^ 64 → AreDigits word → ParsesUnsigned 64 10 word (Err e) → None ≡ number_of most word
not_parsed most word e fits h parses = too_large most word fits (parse_digits numerals 64 word (Err e) parses h)
