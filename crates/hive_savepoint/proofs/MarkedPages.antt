-- Marks of pages that are cleared one after another.
use Rattle.std.proofs.Common.{◌≡◌, ◌≢◌, inl, inr, ℕ, ◌+◌, ◌/◌, ◌%◌, ◌<◌, ◌≤◌, true, false, eqb, List, length, slice_index, set, sym, ◌∙◌, ap, arith}
use Rattle.std.specs.Int.{bit_at}
use Rattle.std.proofs.lemmas.Bool.{cases_eq, cases_lt, cases_Bool}
use Rattle.std.proofs.lemmas.List.{get_or-set_same, get_or-set_other}
use Rattle.std.proofs.lemmas.Nat.Bits.{bit_at-zero}
use Rattle.dirty_vector.specs.Marks.{is_marked}
use Rattle.hive_cells.specs.Restores.{IsAt}

-- each marked page is in the list, from an index on
abbrev pub AreAhead : List ℕ → List ℕ → ℕ → Type 0
AreAhead words pages from = (page : ℕ) → is_marked words page ≡ true → (k : ℕ) × (from ≤ k) × IsAt pages k page

-- the word of a page is cleared
module _ (words : List ℕ) (word : ℕ) (within : word < length words) where
  pub cleared : (page : ℕ) → page / 64 ≡ word → is_marked (set words word 0) page ≡ false
  cleared page here =
      ap (λ (i : ℕ). eqb (bit_at (slice_index (set words word 0) i) (page % 64)) 1) here
      ∙ ap (λ (w : ℕ). eqb (bit_at w (page % 64)) 1) (get_or-set_same words word 0 0 within)
      ∙ ap (λ (b : ℕ). eqb b 1) (bit_at-zero (page % 64))

  pub untouched : (page : ℕ) → page / 64 ≢ word → is_marked (set words word 0) page ≡ is_marked words page
  untouched page there = ap (λ (w : ℕ). eqb (bit_at w (page % 64)) 1) (get_or-set_other words word (page / 64) 0 0 there)

  -- and one page fewer is ahead
  pub one_behind : (pages : List ℕ) (index : ℕ) → word ≡ slice_index pages index / 64 → AreAhead words pages index → AreAhead (set words word 0) pages (index + 1)
  one_behind pages index is ahead page marked = elim (cases_eq (page / 64) word) [
    | inl here ↦ absurd (let no : is_marked (set words word 0) page ≡ false = cleared page here in let bad : ⊥ = cc in bad)
    | inr there ↦
        let h = ahead page (sym (untouched page there) ∙ marked) in
        (h.0, later h.0 h.1 (λ e. there (ap (λ n. n / 64) (sym h.2.1 ∙ ap (slice_index pages) e) ∙ sym is)), h.2)
  ]
    where
      later : (k : ℕ) → index ≤ k → k ≢ index → index + 1 ≤ k
      later k most apart = elim (cases_lt index k) [ inl l ↦ omega (arith, l) | inr g ↦ absurd (apart (omega (arith, most, g))) ]

-- once all are behind, none is marked
pub none_ahead : (words pages : List ℕ) (index : ℕ) → length pages ≤ index → AreAhead words pages index → (page : ℕ) → is_marked words page ≡ false
none_ahead words pages index past ahead page = elim (cases_Bool (is_marked words page)) [
  | inl marked ↦ absurd (let h = ahead page marked in let low : h.0 < length pages = h.2.0 in let from : index ≤ h.0 = h.1 in let bad : ⊥ = omega arith in bad)
  | inr clear ↦ clear
]
