-- Numbers as they are written: digits, with no zero before others.
use Rattle.std.proofs.Common.{◌≡◌, ℕ, zero, suc, ◌+◌, ◌<◌, ◌^◌, ◌%◌, true, false, List, [], ◌∷◌, length, get_or, Ok, Err, sym, ◌∙◌, ap, arith, rules}
use Rattle.std.specs.Prelude.{Result}
use Rattle.std.specs.Fmt.{decimal}
use Rattle.std.specs.List.{list_all}
use Rattle.std.specs.Char.{is_ascii_digit}
use Rattle.std.specs.Str.{IsUtf8}
use Rattle.std.specs.Str.Parse.{digits_value, ParsesUnsigned}
use Rattle.std.proofs.lemmas.Fmt.{decimal_by_steps, decimal_digit, first_decimal, digits_decimal, parse-decimal, decimal-digits_value, IsAscii-from_digits}
use Rattle.std.proofs.lemmas.Str.{IsUtf8-from_ascii}
use Rattle.std.proofs.lemmas.Str.Parse.{IsNumeralModel, numerals_by_value, parse_digits}
use Rattle.client_frames.specs.Heads.{IsNoNumber, Lacks}
use Rattle.client_frames.proofs.Cuts.{lacks_append}

own : IsNumeralModel (λ ds. list_all is_ascii_digit ds ≡ true) (digits_value 10)
own = numerals_by_value _ (search rules)

-- what is no digit is in no number
pub lacks_decimal : (x n : ℕ) → x < 48 → n < 2 ^ 64 → Lacks x (decimal n)
lacks_decimal x n low fits = decimal_by_steps (λ m ds. Lacks x ds) (λ m h. ((λ e. omega (arith, e, low)), tt)) (λ m ds h before. lacks_append x ds ((48 + m % 10) ∷ []) before ((λ e. omega (arith, e, low)), tt)) n fits

-- a text with a zero before others is no number
pub leading_zero : (most : ℕ) (text : List ℕ) → most < 2 ^ 64 → 1 < length text → get_or text 0 0 ≡ 48 → IsNoNumber most text
leading_zero most text fits long first zero h e = absurd (omega (arith, long, ap length (e ∙ decimal_digit 0 (omega arith))))
leading_zero most text fits long first (suc n) h e = absurd (omega (arith, first_decimal (suc n) (omega arith) (omega (arith, h, fits)), first, ap (λ l. get_or l 0 0) e))

-- a text with another byte is no number
pub no_digits : (most : ℕ) (text : List ℕ) → most < 2 ^ 64 → list_all is_ascii_digit text ≡ false → IsNoNumber most text
no_digits most text fits h number within e =
    let all : list_all is_ascii_digit (decimal number) ≡ true = digits_decimal own number (omega (arith, within, fits)) in
    let other : list_all is_ascii_digit (decimal number) ≡ false = ap (list_all is_ascii_digit) (sym e) ∙ h in
    cc

-- digits are text
pub digits_are_utf8 : (text : List ℕ) → list_all is_ascii_digit text ≡ true → IsUtf8 text
digits_are_utf8 text h = IsUtf8-from_ascii text (IsAscii-from_digits text (own.to text h))

-- what doesn't parse is no number
pub not_parsed : {E : Type 0} (most : ℕ) (text : List ℕ) (why : E) → most < 2 ^ 64 → ParsesUnsigned 64 10 text (Err why) → IsNoNumber most text
not_parsed {E} most text why fits parses number within e =
    let small : number < 2 ^ 64 = omega (arith, within, fits) in
    let read : Err why ≡ Ok number = parse-decimal 64 number text (Err why) small small e parses in
    cc

-- what parses to a greater number is none
pub too_large : (most : ℕ) (text : List ℕ) (value : ℕ) → most < 2 ^ 64 → ParsesUnsigned {E = ℕ} 64 10 text (Ok value) → most < value → IsNoNumber most text
too_large most text value fits parses above number within e =
    let small : number < 2 ^ 64 = omega (arith, within, fits) in
    let r : Result ℕ ℕ = Ok value in
    let read : r ≡ Ok number = parse-decimal 64 number text r small small e parses in
    let same : value ≡ number = cc in
    absurd (omega (arith, same, above, within))

one : (n : ℕ) → 0 < n → (1 < n → ⊥) → n ≡ 1
one zero some few = absurd (omega (arith, some))
one (suc zero) some few = omega arith
one (suc (suc n)) some few = absurd (few (omega arith))

-- digits with no zero before others are what is written of the number that they parse to
pub is_decimal : (text : List ℕ) (value : ℕ) → list_all is_ascii_digit text ≡ true → ¬ ((1 < length text) × (get_or text 0 0 ≡ 48)) → ParsesUnsigned {E = ℕ} 64 10 text (Ok value) → text ≡ decimal value
is_decimal text value digits plain parses =
    let read = parse_digits own {E = ℕ} 64 text (Ok value) parses digits in
    let alone : get_or text 0 0 ≡ 48 → length text ≡ 1 = λ zero. one (length text) read.0.0 (λ long. plain (long, zero)) in
    sym (decimal-digits_value own text digits read.0.0 alone read.0.1) ∙ ap decimal (sym read.1)
