-- From characters back to the units that spell them.
use Rattle.std.proofs.Common.{◌≡◌, ℕ, ◌+◌, ◌-◌, ◌*◌, ◌<◌, ◌≤◌, true, List, [], ◌∷◌, ◌++◌, map, Option, Some, None, refl, ◌∙◌, ap, subst, arith, inl, inr}
use Rattle.std.specs.List.{flat_map, AllByRecursion}
use Rattle.std.specs.Char.Escape.{encode_utf16}
use Rattle.std.specs.Char.Utf16.{utf16_chars}
use Rattle.std.proofs.Math.Utf8.{scalar, scalars}
use Rattle.std.proofs.str.Utf16.{one_unit, pair_units}
use Rattle.std.proofs.lemmas.Str.{utf16_chars-nil}
use Rattle.std.proofs.lemmas.Bool.{cases_lt, lt-ltb, le-ltb, le-leb, and_from}
use Rattle.reg_export.specs.CharLaws.{plain, second, apart, last, pair}

abbrev Spells : List ℕ → List ℕ → Type 0
Spells cs us = (flat_map encode_utf16 cs ≡ us) × (scalars cs ≡ true)

-- characters of units spell them
abbrev pub Back : List ℕ → Type 0
Back us = (cs : List ℕ) → utf16_chars us ≡ map Some cs → Spells cs us

step : (os : List (Option ℕ)) (cs : List ℕ) (c : ℕ) (front us rest : List ℕ) → os ≡ Some c ∷ utf16_chars rest → os ≡ map Some cs → encode_utf16 c ≡ front → scalar c ≡ true → front ++ rest ≡ us → Back rest → Spells cs us
step os [] c front us rest e f g s j back = absurd (let no : ⊥ = cc in no)
step os (d ∷ ds) c front us rest e f g s j back =
    let same : d ≡ c = cc in
    let tail : utf16_chars rest ≡ map Some ds = cc in
    let more = back ds tail in (
      ap (λ x. encode_utf16 x ++ flat_map encode_utf16 ds) same ∙ ap (λ t. t ++ flat_map encode_utf16 ds) g ∙ ap (λ t. front ++ t) more.0 ∙ j,
      and_from (scalar d) (scalars ds) (ap scalar same ∙ s) more.1,
    )

none : (os rest : List (Option ℕ)) (cs : List ℕ) → os ≡ None ∷ rest → os ≡ map Some cs → ⊥
none os rest [] e f = cc
none os rest (c ∷ cs) e f = cc

low_scalar : (u : ℕ) → u < 0xd800 → scalar u ≡ true
low_scalar u h = rw (lt-ltb u 0xd800 h)

high_scalar : (u : ℕ) → 0xe000 ≤ u → u < 0x11_0000 → scalar u ≡ true
high_scalar u h k = rw (le-ltb u 0xd800 (omega arith), le-leb 0xe000 u h, lt-ltb u 0x11_0000 k)

-- the first surrogate of a pair, and units after it
after_high : (u : ℕ) (us cs : List ℕ) → 0xd800 ≤ u → u < 0xdc00 → ((v : ℕ) (vs : List ℕ) → us ≡ v ∷ vs → Back vs) → utf16_chars (u ∷ us) ≡ map Some cs → Spells cs (u ∷ us)
after_high u [] cs from below back h = absurd (none _ _ cs (last u [] from below refl) h)
after_high u (v ∷ vs) cs from below back h = elim (cases_lt v 0xdc00) [
  | inl low ↦ absurd (none _ _ cs (apart u v (v ∷ vs) vs from below refl (inl low)) h)
  | inr up ↦ elim (cases_lt v 0xe000) [
    | inr high ↦ absurd (none _ _ cs (apart u v (v ∷ vs) vs from below refl (inr high)) h)
    | inl under ↦
        let c = 0x1_0000 + (u - 0xd800) * 0x400 + (v - 0xdc00) in
        let same : c ≡ 0x1_0000 + ((u - 0xd800) * 0x400 + (v - 0xdc00)) = omega arith in
        step _ cs c (u ∷ v ∷ []) (u ∷ v ∷ vs) vs (pair u v (v ∷ vs) vs (Some c) from below up under refl refl) h (ap encode_utf16 same ∙ pair_units u v from up under) (high_scalar c (omega arith) (omega arith)) refl (back v vs refl)
  ]
]

first : (u : ℕ) (us cs : List ℕ) → u < 0x1_0000 → Back us → ((v : ℕ) (vs : List ℕ) → us ≡ v ∷ vs → Back vs) → utf16_chars (u ∷ us) ≡ map Some cs → Spells cs (u ∷ us)
first u us cs small back behind h = elim (cases_lt u 0xd800) [
  | inl low ↦ step _ cs u (u ∷ []) (u ∷ us) us (plain u us (Some u) (inl low) refl) h (one_unit u small) (low_scalar u low) refl back
  | inr from ↦ elim (cases_lt u 0xe000) [
    | inr high ↦ step _ cs u (u ∷ []) (u ∷ us) us (plain u us (Some u) (inr high) refl) h (one_unit u small) (high_scalar u high (omega arith)) refl back
    | inl below ↦ elim (cases_lt u 0xdc00) [
      | inr late ↦ absurd (none _ _ cs (second u us late below) h)
      | inl early ↦ after_high u us cs from early behind h
    ]
  ]
]

-- units of 16 bits
abbrev pub AreUnits : List ℕ → Type 0
AreUnits us = AllByRecursion (λ u. u < 0x1_0000) us

nothing : Back []
nothing [] h = (refl, refl)
nothing (c ∷ cs) h = absurd (let no : ⊥ = cc (utf16_chars-nil) in no)

pub units_back : (us : List ℕ) → AreUnits us → Back us
units_back [] small = nothing
units_back (u ∷ []) small = λ cs h. first u [] cs small.0 nothing (λ v vs e. absurd (let no : ⊥ = cc in no)) h
units_back (u ∷ v ∷ us) small = λ cs h. first u (v ∷ us) cs small.0 (units_back (v ∷ us) small.1) (λ w ws e. let same : us ≡ ws = cc in subst Back same (units_back us small.1.1)) h
