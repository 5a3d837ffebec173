-- The characters of units: of a unit and those after it, and of some units and others.
use Rattle.std.proofs.Common.{◌≡◌, ℕ, ◌+◌, ◌-◌, ◌*◌, ◌<◌, ◌≤◌, Bool, true, false, ◌&&◌, List, [], ◌∷◌, ◌++◌, map, get_or, Option, Some, None, refl, sym, ◌∙◌, ap, subst, arith, inl, inr}
use Rattle.std.specs.Prelude.{◌⊎◌, MatchOption, is_some}
use Rattle.std.specs.Char.{InScalarRange, OutOfScalarRange}
use Rattle.std.specs.List.{AllByRecursion, flat_map, list_all}
use Rattle.std.specs.Option.{SomeIff}
use Rattle.std.specs.Char.Utf16.{utf16_chars, lone_unit_char}
use Rattle.std.proofs.lemmas.Bool.{cases_lt, false≢true, le-leb, le-ltb, lt-leb, lt-ltb}
use Rattle.std.proofs.lemmas.List.Folds.{list_all-append}
use Rattle.std.proofs.lemmas.Str.{utf16_chars-nil, utf16_chars_lone, utf16_chars_pair, encode_ascii}
use Rattle.reg_export.specs.Characters.{IsSurrogatePair}
use Rattle.reg_export.specs.NameTests.{are_chars}
use Rattle.reg_export.specs.Encodings.{char_bytes}

-- a number that is no surrogate has a character
pub it_is : (P : Type 0) (found : Option ℕ) (u : ℕ) → SomeIff found P u → MatchOption found (OutOfScalarRange u) (λ _. InScalarRange u) → InScalarRange u → found ≡ Some u
it_is P None u h (inl low) (inl below) = absurd (omega (arith, low.0))
it_is P None u h (inl low) (inr above) = absurd (omega (arith, low.1, above.0))
it_is P None u h (inr past) (inl below) = absurd (omega arith)
it_is P None u h (inr past) (inr above) = absurd (omega (arith, above.1))
it_is P (Some x) u h cases there = ap (λ y. Some y) h.1

lone_unit_char_low : (u : ℕ) → u < 0xD800 → lone_unit_char u ≡ Some u
lone_unit_char_low u below = rw (lt-leb 0xD800 u below)

lone_unit_char_high : (u : ℕ) → 0xE000 ≤ u → lone_unit_char u ≡ Some u
lone_unit_char_high u from = rw (le-leb 0xD800 u (omega arith), le-ltb u 0xE000 from)

lone_unit_char_surrogate : (u : ℕ) → 0xD800 ≤ u → u < 0xE000 → lone_unit_char u ≡ None
lone_unit_char_surrogate u from below = rw (le-leb 0xD800 u from, lt-ltb u 0xE000 below)

-- a unit that is no surrogate
pub plain : (u : ℕ) (us : List ℕ) (c : Option ℕ) → (u < 0xd800) ⊎ (0xe000 ≤ u) → c ≡ Some u → utf16_chars (u ∷ us) ≡ c ∷ utf16_chars us
plain u us c (inl low) e = utf16_chars_lone u us (λ pair. absurd (omega (arith, pair.0))) ∙ ap (λ d. d ∷ utf16_chars us) (lone_unit_char_low u low ∙ sym e)
plain u us c (inr high) e = utf16_chars_lone u us (λ pair. absurd (omega (arith, pair.1))) ∙ ap (λ d. d ∷ utf16_chars us) (lone_unit_char_high u high ∙ sym e)

alone : (u : ℕ) (us : List ℕ) → 0xd800 ≤ u → u < 0xe000 → (IsSurrogatePair u (get_or us 0 0) → ⊥) → utf16_chars (u ∷ us) ≡ None ∷ utf16_chars us
alone u us from below apart = utf16_chars_lone u us apart ∙ ap (λ d. d ∷ utf16_chars us) (lone_unit_char_surrogate u from below)

-- the second surrogate of a pair stands first
pub second : (u : ℕ) (us : List ℕ) → 0xdc00 ≤ u → u < 0xe000 → utf16_chars (u ∷ us) ≡ None ∷ utf16_chars us
second u us from below = alone u us (omega arith) below (λ pair. absurd (omega (arith, pair.1)))

-- after the first surrogate of a pair stands no second one
pub apart : (u v : ℕ) (us vs : List ℕ) → 0xd800 ≤ u → u < 0xdc00 → us ≡ v ∷ vs → (v < 0xdc00) ⊎ (0xe000 ≤ v) → utf16_chars (u ∷ us) ≡ None ∷ utf16_chars us
apart u v us vs from below e (inl low) = alone u us from (omega arith) (λ pair. let same : get_or us 0 0 ≡ v = ap (λ list. get_or list 0 0) e in absurd (omega (arith, same, pair.2)))
apart u v us vs from below e (inr high) = alone u us from (omega arith) (λ pair. let same : get_or us 0 0 ≡ v = ap (λ list. get_or list 0 0) e in absurd (omega (arith, same, pair.3)))

-- after it stands nothing
pub last : (u : ℕ) (us : List ℕ) → 0xd800 ≤ u → u < 0xdc00 → us ≡ [] → utf16_chars (u ∷ us) ≡ None ∷ utf16_chars us
last u us from below e = alone u us from (omega arith) (λ pair. let same : get_or us 0 0 ≡ 0 = ap (λ list. get_or list 0 0) e in absurd (omega (arith, same, pair.2)))

-- a pair of surrogates
pub pair : (u v : ℕ) (us vs : List ℕ) (c : Option ℕ) → 0xd800 ≤ u → u < 0xdc00 → 0xdc00 ≤ v → v < 0xe000 → us ≡ v ∷ vs → c ≡ Some (0x1_0000 + (u - 0xd800) * 0x400 + (v - 0xdc00)) → utf16_chars (u ∷ us) ≡ c ∷ utf16_chars vs
pair u v us vs c a b d e f g =
    ap (λ list. utf16_chars (u ∷ list)) f ∙ utf16_chars_pair u v vs (a, b, d, e) ∙ ap (λ x. x ∷ utf16_chars vs) (sym g)

-- ---- some units and others

abbrev all_known : List (Option ℕ) → Bool
all_known os = list_all is_some os

-- half of a pair alone is no character
no_half : (units : List ℕ) (rest : List (Option ℕ)) → utf16_chars units ≡ None ∷ rest → are_chars units ≡ true → ⊥
no_half units rest e h = false≢true (sym (ap all_known e) ∙ h)

-- Units that are characters are none; or a unit that is no surrogate, and others; or a pair of surrogates, and others.
module _ (P : List ℕ → Type 0) (none : P []) (one : (u : ℕ) (us : List ℕ) → (u < 0xd800) ⊎ (0xe000 ≤ u) → are_chars us ≡ true → P us → P (u ∷ us)) (two : (u v : ℕ) (us : List ℕ) → IsSurrogatePair u v → are_chars us ≡ true → P us → P (u ∷ v ∷ us)) where
  abbrev Holds : List ℕ → Type 0
  Holds us = are_chars us ≡ true → P us

  rest_are : (c : ℕ) (units rest : List ℕ) → utf16_chars units ≡ Some c ∷ utf16_chars rest → are_chars units ≡ true → are_chars rest ≡ true
  rest_are c units rest e h = sym (ap all_known e) ∙ h

  after_high : (u : ℕ) (us : List ℕ) → 0xd800 ≤ u → u < 0xdc00 → ((v : ℕ) (vs : List ℕ) → us ≡ v ∷ vs → Holds vs) → Holds (u ∷ us)
  after_high u [] from below behind h = absurd (no_half _ _ (last u [] from below refl) h)
  after_high u (v ∷ vs) from below behind h = elim (cases_lt v 0xdc00) [
    | inl low ↦ absurd (no_half _ _ (apart u v (v ∷ vs) vs from below refl (inl low)) h)
    | inr up ↦ elim (cases_lt v 0xe000) [
      | inr high ↦ absurd (no_half _ _ (apart u v (v ∷ vs) vs from below refl (inr high)) h)
      | inl under ↦
          let c = 0x1_0000 + (u - 0xd800) * 0x400 + (v - 0xdc00) in
          let are = rest_are c (u ∷ v ∷ vs) vs (pair u v (v ∷ vs) vs (Some c) from below up under refl refl) h in two u v vs (from, below, up, under) are (behind v vs refl are)
    ]
  ]

  after_first : (u : ℕ) (us : List ℕ) → Holds us → ((v : ℕ) (vs : List ℕ) → us ≡ v ∷ vs → Holds vs) → Holds (u ∷ us)
  after_first u us rest behind h = elim (cases_lt u 0xd800) [
    | inl low ↦ let are = rest_are u (u ∷ us) us (plain u us (Some u) (inl low) refl) h in one u us (inl low) are (rest are)
    | inr from ↦ elim (cases_lt u 0xe000) [
      | inr high ↦ let are = rest_are u (u ∷ us) us (plain u us (Some u) (inr high) refl) h in one u us (inr high) are (rest are)
      | inl below ↦ elim (cases_lt u 0xdc00) [
        | inr late ↦ absurd (no_half _ _ (second u us late below) h)
        | inl early ↦ after_high u us from early behind h
      ]
    ]
  ]

  pub by_chars : (units : List ℕ) → are_chars units ≡ true → P units
  by_chars [] h = none
  by_chars (u ∷ []) h = after_first u [] (λ e. none) (λ v vs e. absurd (let no : ⊥ = cc in no)) h
  by_chars (u ∷ v ∷ us) h = after_first u (v ∷ us) (by_chars (v ∷ us)) (λ w ws e. let same : us ≡ ws = cc in subst Holds same (by_chars us)) h

-- characters stay, whatever comes after them
pub chars_both : (front back : List ℕ) → are_chars front ≡ true → utf16_chars (front ++ back) ≡ utf16_chars front ++ utf16_chars back
chars_both front back h =
    by_chars (λ us. utf16_chars (us ++ back) ≡ utf16_chars us ++ utf16_chars back)
    (ap (λ (os : List (Option ℕ)). os ++ utf16_chars back) (sym utf16_chars-nil))
    (λ u us either are rest.
    plain u (us ++ back) (Some u) either refl ∙ ap (λ (os : List (Option ℕ)). Some u ∷ os) rest ∙ ap (λ (os : List (Option ℕ)). os ++ utf16_chars back) (sym (plain u us (Some u) either refl)))
    (λ u v us is are rest.
    let c = 0x1_0000 + (u - 0xd800) * 0x400 + (v - 0xdc00) in
    utf16_chars_pair u v (us ++ back) is ∙ ap (λ (os : List (Option ℕ)). Some c ∷ os) rest ∙ ap (λ (os : List (Option ℕ)). os ++ utf16_chars back) (sym (utf16_chars_pair u v us is)))
    front h

pub are_chars_both : (front back : List ℕ) → are_chars front ≡ true → are_chars back ≡ true → are_chars (front ++ back) ≡ true
are_chars_both front back f b = ap all_known (chars_both front back f) ∙ list_all-append is_some (utf16_chars front) (utf16_chars back) ∙ (λ i. f i && b i)

pub are_chars_none : are_chars [] ≡ true
are_chars_none = ap all_known utf16_chars-nil

-- ---- units that are characters each

-- a unit that is no surrogate is a character
pub one_char : (u : ℕ) → (u < 0xd800) ⊎ (0xe000 ≤ u) → utf16_chars (u ∷ []) ≡ Some u ∷ []
one_char u either = plain u [] (Some u) either refl ∙ ap (λ (os : List (Option ℕ)). Some u ∷ os) utf16_chars-nil

pub pair_char : (u v : ℕ) → IsSurrogatePair u v → utf16_chars (u ∷ v ∷ []) ≡ Some (0x1_0000 + (u - 0xd800) * 0x400 + (v - 0xdc00)) ∷ []
pair_char u v is = utf16_chars_pair u v [] is ∙ ap (λ (os : List (Option ℕ)). Some (0x1_0000 + (u - 0xd800) * 0x400 + (v - 0xdc00)) ∷ os) utf16_chars-nil

low_chars : (units : List ℕ) → AllByRecursion (λ u. u < 128) units → utf16_chars units ≡ map Some units
low_chars [] h = utf16_chars-nil
low_chars (u ∷ us) h = plain u us (Some u) (inl (omega (arith, h.0))) refl ∙ ap (λ (os : List (Option ℕ)). Some u ∷ os) (low_chars us h.1)

known : (cs : List ℕ) → all_known (map Some cs) ≡ true
known [] = refl
known (c ∷ cs) = known cs

-- ASCII is its own UTF-8
ascii_bytes : (units : List ℕ) → AllByRecursion (λ u. u < 128) units → flat_map char_bytes (map Some units) ≡ units
ascii_bytes [] h = refl
ascii_bytes (u ∷ us) h = ap (λ (bytes : List ℕ). bytes ++ flat_map char_bytes (map Some us)) (encode_ascii u h.0) ∙ ap (λ (bytes : List ℕ). u ∷ bytes) (ascii_bytes us h.1)

pub ascii_chars : (units : List ℕ) → AllByRecursion (λ u. u < 128) units → are_chars units ≡ true
ascii_chars units h = ap all_known (low_chars units h) ∙ known units

pub ascii_encoded : (units : List ℕ) → AllByRecursion (λ u. u < 128) units → flat_map char_bytes (utf16_chars units) ≡ units
ascii_encoded units h = ap (λ (os : List (Option ℕ)). flat_map char_bytes os) (low_chars units h) ∙ ascii_bytes units h
