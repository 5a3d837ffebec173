-- Numbers of hex digits, by the grammar and as they are scanned.
use Rattle.std.proofs.Common.{◌≡◌, ◌≢◌, ℕ, ◌+◌, ◌-◌, ◌*◌, ◌<◌, ◌≤◌, ◌==◌, Bool, true, false, List, [], ◌∷◌, ◌++◌, length, Option, Some, None, refl, sym, ◌∙◌, ap, subst, inl, inr, arith}
use Rattle.std.specs.Prelude.{◌⊎◌, ◌||◌}
use Rattle.std.specs.Option.{option_and_then}
use Rattle.reg_file.specs.Scanning.{is_blank, digit_of, digits_from, number_at}
use Rattle.reg_file.specs.Grammar.{AreBlanks, IsLineEnd, IsTail, GoOn, IsNumber}
use Rattle.reg_file.proofs.Scans.{pair_same, digit_step}
use Rattle.reg_file.proofs.BlankRuns.{same_unit, is_or_not}

-- no number goes on here
abbrev pub NoDigit : List ℕ → Type 0
NoDigit [] = Unit {0}
NoDigit (unit ∷ units) = digit_of unit ≡ None

-- a blank is a blank or a tab
pub blank_is : (unit : ℕ) → is_blank unit ≡ true → (unit ≡ 32) ⊎ (unit ≡ 9)
blank_is unit h = elim (is_or_not (unit == 32)) [
  | inl blank ↦ inl (same_unit unit 32 blank)
  | inr other ↦ inr (same_unit unit 9 (sym (ap (λ test. test || (unit == 9)) other) ∙ h))
]

-- the end of a line begins with a blank or a carriage return
pub end_first : (unit : ℕ) (units : List ℕ) → IsLineEnd (unit ∷ units) → (unit ≡ 32) ⊎ (unit ≡ 9) ⊎ (unit ≡ 13)
end_first unit units e = first e.blanks e.are_blanks e.parsed
  where
    first : (blanks : List ℕ) → AreBlanks blanks → ((unit ∷ units ≡ blanks) ⊎ (unit ∷ units ≡ blanks ++ 13 ∷ [])) → (unit ≡ 32) ⊎ (unit ≡ 9) ⊎ (unit ≡ 13)
    first [] h (inl p) = cc
    first [] h (inr p) = inr (inr cc)
    first (blank ∷ blanks) h (inl p) = let same : unit ≡ blank = cc in any (blank_is unit (subst (λ u. is_blank u ≡ true) (sym same) h.0))
      where
        any : (unit ≡ 32) ⊎ (unit ≡ 9) → (unit ≡ 32) ⊎ (unit ≡ 9) ⊎ (unit ≡ 13)
        any (inl x) = inl x
        any (inr y) = inr (inl y)
    first (blank ∷ blanks) h (inr p) = let same : unit ≡ blank = cc in any (blank_is unit (subst (λ u. is_blank u ≡ true) (sym same) h.0))
      where
        any : (unit ≡ 32) ⊎ (unit ≡ 9) → (unit ≡ 32) ⊎ (unit ≡ 9) ⊎ (unit ≡ 13)
        any (inl x) = inl x
        any (inr y) = inr (inl y)

-- and what may stand behind a statement so, or with a semicolon
pub tail_first : (unit : ℕ) (units : List ℕ) → IsTail (unit ∷ units) → (unit ≡ 32) ⊎ (unit ≡ 9) ⊎ (unit ≡ 13) ⊎ (unit ≡ 59)
tail_first unit units (inl ended) = elim (end_first unit units ended) [
  | inl blank ↦ inl blank
  | inr (inl tab) ↦ inr (inl tab)
  | inr (inr return) ↦ inr (inr (inl return))
]
tail_first unit units (inr (blanks, rest, e, h)) = first blanks h e
  where
    first : (blanks : List ℕ) → AreBlanks blanks → unit ∷ units ≡ blanks ++ 59 ∷ rest → (unit ≡ 32) ⊎ (unit ≡ 9) ⊎ (unit ≡ 13) ⊎ (unit ≡ 59)
    first [] h p = inr (inr (inr cc))
    first (blank ∷ blanks) h p = let same : unit ≡ blank = cc in any (blank_is unit (subst (λ u. is_blank u ≡ true) (sym same) h.0))
      where
        any : (unit ≡ 32) ⊎ (unit ≡ 9) → (unit ≡ 32) ⊎ (unit ≡ 9) ⊎ (unit ≡ 13) ⊎ (unit ≡ 59)
        any (inl x) = inl x
        any (inr y) = inr (inl y)

pub tail_no_digit : (units : List ℕ) → IsTail units → NoDigit units
tail_no_digit [] e = tt
tail_no_digit (unit ∷ units) e = elim (tail_first unit units e) [
  | inl blank ↦ ap digit_of blank
  | inr (inl tab) ↦ ap digit_of tab
  | inr (inr (inl return)) ↦ ap digit_of return
  | inr (inr (inr remark)) ↦ ap digit_of remark
]

-- digits by the grammar are scanned
digits_scanned : (left front number : ℕ) (digits rest : List ℕ) → length digits ≤ left → GoOn front digits number → NoDigit rest → digits_from left front (digits ++ rest) ≡ Some (number, rest)
digits_scanned left front number [] [] h g none = ap (λ n. Some (n, [])) (sym g)
digits_scanned left front number [] (unit ∷ units) h g none = rw none (ap (λ n. Some (n, unit ∷ units)) (sym g))
digits_scanned left front number (unit ∷ units) rest h g none =
    let some : left ≢ 0 = λ e. omega (arith, h, e) in
    digit_step left front unit g.0 (units ++ rest) g.1 some ∙ digits_scanned (left - 1) (16 * front + g.0) number units rest (omega (arith, h)) g.2 none

pub number_scanned : (digits rest : List ℕ) (number : ℕ) → IsNumber digits number → NoDigit rest → number_at (digits ++ rest) ≡ Some (number, rest)
number_scanned digits rest number n none = first digits n.some n.few n.value
  where
    first : (ds : List ℕ) → 0 < length ds → length ds ≤ 8 → GoOn 0 ds number → number_at (ds ++ rest) ≡ Some (number, rest)
    first [] some few value = absurd (omega (arith, some))
    first (unit ∷ units) some few value =
        let same : 16 * 0 + value.0 ≡ value.0 = omega arith in
        ap (option_and_then (λ digit. digits_from 7 digit (units ++ rest))) value.1
        ∙ digits_scanned 7 value.0 number units rest (omega (arith, few)) (subst (λ front. GoOn front units number) same value.2) none

-- what is scanned are digits
abbrev pub Goes : ℕ → ℕ → List ℕ → ℕ → List ℕ → Type 0
Goes left front line number rest = (digits : List ℕ) × (line ≡ digits ++ rest) × (length digits ≤ left) × GoOn front digits number

none_goes : (left front : ℕ) (line : List ℕ) (number : ℕ) (rest : List ℕ) → ◌≡◌ {A = Option (ℕ × List ℕ)} (Some (front, line)) (Some (number, rest)) → Goes left front line number rest
none_goes left front line number rest e = let same = pair_same front number line rest e in ([], same.1, omega arith, sym same.0)

nothing : (number : ℕ) (rest : List ℕ) → ◌≡◌ {A = Option (ℕ × List ℕ)} None (Some (number, rest)) → ⊥
nothing number rest e = cc

pub digits_go : (left front : ℕ) (line : List ℕ) (number : ℕ) (rest : List ℕ) → digits_from left front line ≡ Some (number, rest) → Goes left front line number rest
digits_go left front [] number rest e = none_goes left front [] number rest e
digits_go left front (unit ∷ units) number rest e = by_digit (λ more. digits_go (left - 1) more units number rest) (digit_of unit) refl
  where
    both_ways : (test : Bool) → test ≡ true → test ≡ false → ⊥
    both_ways test h k = bad (sym h ∙ k)
      where
        bad : true ≡ false → ⊥
        bad b = cc

    at_none : digit_of unit ≡ None → digits_from left front (unit ∷ units) ≡ Some (front, unit ∷ units)
    at_none d = rw d refl

    at_full : (digit : ℕ) → digit_of unit ≡ Some digit → (left == 0) ≡ true → digits_from left front (unit ∷ units) ≡ None
    at_full digit d full = rw (d, full) refl

    by_digit : ((more : ℕ) → digits_from (left - 1) more units ≡ Some (number, rest) → Goes (left - 1) more units number rest) → (digit : Option ℕ) → digit_of unit ≡ digit → Goes left front (unit ∷ units) number rest
    by_digit go None d = none_goes left front (unit ∷ units) number rest (sym (at_none d) ∙ e)
    by_digit go (Some digit) d = elim (is_or_not (left == 0)) [
      | inl full ↦ absurd (nothing number rest (sym (at_full digit d full) ∙ e))
      | inr more ↦
          let some : left ≢ 0 = λ zero_left. both_ways (left == 0) (ap (λ n. n == 0) zero_left) more in
          let further = go (16 * front + digit) (sym (digit_step left front unit digit units d some) ∙ e) in
          (unit ∷ further.0, ap (λ us. unit ∷ us) further.1, omega (arith, further.2, some), (digit, d, further.3))
    ]

pub number_goes : (line : List ℕ) (number : ℕ) (rest : List ℕ) → number_at line ≡ Some (number, rest) → (digits : List ℕ) × (line ≡ digits ++ rest) × IsNumber digits number
number_goes [] number rest e = absurd (nothing number rest e)
number_goes (unit ∷ units) number rest e = by_digit (digit_of unit) refl
  where
    by_digit : (digit : Option ℕ) → digit_of unit ≡ digit → (digits : List ℕ) × (unit ∷ units ≡ digits ++ rest) × IsNumber digits number
    by_digit None d = absurd (nothing number rest (sym (ap (option_and_then (λ digit. digits_from 7 digit units)) d) ∙ e))
    by_digit (Some digit) d =
        let further = digits_go 7 digit units number rest (sym (ap (option_and_then (λ digit. digits_from 7 digit units)) d) ∙ e) in
        let same : digit ≡ 16 * 0 + digit = omega arith in
        (unit ∷ further.0, ap (λ us. unit ∷ us) further.1, record { some = omega arith; few = omega (arith, further.2); value = (digit, d, subst (λ front. GoOn front further.0 number) same further.3) })
