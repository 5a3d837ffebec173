-- Numbers, written and parsed.
use Rattle.std.proofs.Common.{◌≡◌, ℕ, zero, suc, ◌+◌, ◌/◌, ◌%◌, ◌*◌, ◌^◌, ◌<◌, ◌≤◌, Bool, true, false, ◌&&◌, ◌==◌, if◌then◌else◌, List, [], ◌∷◌, ◌++◌, length, take, drop, Some, None, refl, sym, ◌∙◌, ap, subst, arith, codes}
use Rattle.std.specs.Prelude.{nat_lt, nat_le}
use Rattle.std.specs.List.{list_all}
use Rattle.std.specs.Char.{is_digit, digit_value}
use Rattle.std.specs.Fmt.{digits, digits_onto, digit_glyph, decimal}
use Rattle.std.specs.Str.{bytes_eq}
use Rattle.std.specs.Str.Parse.{AllDigits, IsNumeral, digits_value}
use Rattle.std.proofs.lemmas.Bool.{and_from, cond_both, lt-ltb, le-leb, ne_eqb}
use Rattle.std.proofs.lemmas.Fmt.{digits_is_IsNumeral}
use native.Mathlib.Numerals.{unary_clauses}
use Rattle.value_syntax.specs.TypeWords.{number_in, number_of, number_from, kind_of}
use Rattle.value_syntax.proofs.LineWords.{HasNoBlank}

are_digits : (base : ℕ) (ds : List ℕ) → AllDigits base ds → list_all (λ c. is_digit c base) ds ≡ true
are_digits base [] h = refl
are_digits base (d ∷ ds) h = and_from _ _ (lt-ltb (digit_value d) base h.0) (are_digits base ds h.1)

-- a numeral parses to its value
pub numeral_parses : (base most n : ℕ) (ds : List ℕ) → IsNumeral base ds → digits_value base ds ≡ n → n ≤ most → number_in base most ds ≡ Some n
numeral_parses base most n ds numeral value within =
    let some : nat_lt 0 (length ds) ≡ true = lt-ltb 0 (length ds) numeral.0 in
    let fits : nat_le (digits_value base ds) most ≡ true = le-leb _ _ (omega (arith, value, within)) in
    ap (λ b. if b then Some (digits_value base ds) else None) (and_from _ _ (and_from _ _ some (are_digits base ds numeral.1)) fits) ∙ ap (λ m. Some m) value

-- decimal digits don't begin with `0x`
x_is_no_digit : (d : ℕ) → digit_value d < 10 → (d == 120) ≡ false
x_is_no_digit d h = ne_eqb d 120 (λ e. let value : digit_value d ≡ 33 = ap digit_value e in absurd (omega (arith, h, value)))

false_right : (b c : Bool) → c ≡ false → (b && (c && true)) ≡ false
false_right true c h = ap (λ d. d && true) h
false_right false c h = refl

no_mark : (ds : List ℕ) → AllDigits 10 ds → bytes_eq (take 2 ds) (codes "0x") ≡ false
no_mark [] h = refl
no_mark (d ∷ []) h = false_last (d == 48)
  where
    false_last : (b : Bool) → (b && false) ≡ false
    false_last true = refl
    false_last false = refl
no_mark (d ∷ e ∷ ds) h = false_right (d == 48) (e == 120) (x_is_no_digit e h.1.0)

pub decimal_parses : (most n : ℕ) → n < 2 ^ 64 → n ≤ most → number_of most (decimal n) ≡ Some n
decimal_parses most n small within =
    let is = digits_is_IsNumeral 10 false (omega arith) (omega arith) n (omega arith) in
    ap (number_from most (decimal n)) (ap (λ b. if b then Some (drop 2 (decimal n)) else None) (no_mark (decimal n) is.0.1)) ∙ numeral_parses 10 most n (decimal n) is.0 is.1 within

-- a number below 16 to the power of some number above 0 has at most that many hex digits
few : (turns more n : ℕ) (acc : List ℕ) → more < turns → n < 16 ^ suc more → length (digits_onto turns 16 false n acc) ≤ length acc + suc more
few zero more n acc room below = absurd (omega arith)
few (suc turns) zero n acc room below =
    let none : n / 16 ≡ 0 = omega (arith, below) in
    subst (λ list. length list ≤ length acc + 1) (ap (λ q. if q == 0 then digit_glyph false (n % 16) ∷ acc else digits_onto turns 16 false q (digit_glyph false (n % 16) ∷ acc)) (sym none)) (omega arith)
few (suc turns) (suc more) n acc room below =
    cond_both (n / 16 == 0) (digit_glyph false (n % 16) ∷ acc) (digits_onto turns 16 false (n / 16) (digit_glyph false (n % 16) ∷ acc)) (λ list. length list ≤ length acc + suc (suc more))
    (λ _. omega arith)
    (λ _. let less = few turns more (n / 16) (digit_glyph false (n % 16) ∷ acc) (omega arith) (smaller n (16 ^ suc more) (power below)) in omega (arith, less))
  where
    power : n < 16 ^ suc (suc more) → n < 16 * 16 ^ suc more
    power h = let k : n < 16 ^ more * 16 * 16 = simp unary_clauses at h in simp unary_clauses (omega (arith, k))

    smaller : (m p : ℕ) → m < 16 * p → m / 16 < p
    smaller m p h = omega (arith, h)

pub few_digits : (kind : ℕ) → kind < 2 ^ 32 → length (digits 16 false kind) ≤ 8
unfolding digits
few_digits kind small = few 64 7 kind [] (omega arith) (omega arith)

pub kind_parses : (kind : ℕ) → kind < 2 ^ 32 → kind_of (digits 16 false kind) ≡ Some kind
kind_parses kind small =
    let is = digits_is_IsNumeral 16 false (omega arith) (omega arith) kind (omega arith) in
    ap (λ b. if b then number_in 16 0xffff_ffff (digits 16 false kind) else None) (le-leb (length (digits 16 false kind)) 8 (few_digits kind small))
    ∙ numeral_parses 16 0xffff_ffff kind (digits 16 false kind) is.0 is.1 (omega arith)

blank_is_no_digit : (d : ℕ) → digit_value d < 16 → (d == 32) ≡ false
blank_is_no_digit d h = ne_eqb d 32 (λ e. let value : digit_value d ≡ 36 = ap digit_value e in absurd (omega (arith, h, value)))

-- no blank is among digits and what follows them
pub no_blank : (ds rest : List ℕ) → AllDigits 16 ds → HasNoBlank rest → HasNoBlank (ds ++ rest)
no_blank [] rest h more = more
no_blank (d ∷ ds) rest h more = (blank_is_no_digit d h.0, no_blank ds rest h.1 more)

pub hex_digits : (kind : ℕ) → kind < 2 ^ 32 → AllDigits 16 (digits 16 false kind)
hex_digits kind small = let is = digits_is_IsNumeral 16 false (omega arith) (omega arith) kind (omega arith) in is.0.1
