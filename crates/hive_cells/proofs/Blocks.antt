-- Bytes that are moved a block at a time, in the order in which no block is written before it is read.
use Rattle.std.proofs.Common.{◌≡◌, ◌+◌, ◌-◌, ◌<◌, ◌≤◌, ℕ, List, slice_index, ap, ◌∙◌, inl, inr, arith}
use Rattle.std.proofs.lemmas.Bool.{cases_lt}
use Rattle.hive_cells.specs.Changes.{RewritesWithin}

-- the block after those that were moved down
pub moved_down : (old mid new : List ℕ) (from to moved count : ℕ) → to ≤ from
    → RewritesWithin old mid to (to + moved) → ((j : ℕ) → j < moved → slice_index mid (to + j) ≡ slice_index old (from + j))
    → RewritesWithin mid new (to + moved) (to + moved + count) → ((j : ℕ) → j < count → slice_index new (to + moved + j) ≡ slice_index mid (from + moved + j))
    → RewritesWithin old new to (to + (moved + count)) × ((j : ℕ) → j < moved + count → slice_index new (to + j) ≡ slice_index old (from + j))
moved_down old mid new from to moved count order r before s block = (
  record {
    len = s.len ∙ r.len;
    others = λ i apart. elim apart [
      | inl low ↦ s.others i (inl (omega (arith, low))) ∙ r.others i (inl low)
      | inr high ↦ s.others i (inr (omega (arith, high))) ∙ r.others i (inr (omega (arith, high)))
    ];
  },
  λ j less. elim (cases_lt j moved) [
    | inl early ↦ s.others (to + j) (inl (omega (arith, early))) ∙ before j early
    | inr late ↦
        let there : to + j ≡ to + moved + (j - moved) = omega (arith, late) in
        let here : from + moved + (j - moved) ≡ from + j = omega (arith, late) in
        ap (slice_index new) there ∙ block (j - moved) (omega (arith, late, less)) ∙ ap (slice_index mid) here
        ∙ r.others (from + j) (inr (omega (arith, late, order)))
  ],
)

-- the block before those that were moved up
pub moved_up : (old mid new : List ℕ) (from to len left rest count : ℕ) → from ≤ to → left ≡ rest + count → left ≤ len
    → RewritesWithin old mid (to + left) (to + len) → ((j : ℕ) → left ≤ j → j < len → slice_index mid (to + j) ≡ slice_index old (from + j))
    → RewritesWithin mid new (to + rest) (to + rest + count) → ((j : ℕ) → j < count → slice_index new (to + rest + j) ≡ slice_index mid (from + rest + j))
    → RewritesWithin old new (to + rest) (to + len) × ((j : ℕ) → rest ≤ j → j < len → slice_index new (to + j) ≡ slice_index old (from + j))
moved_up old mid new from to len left rest count order left_is most r after s block = (
  record {
    len = s.len ∙ r.len;
    others = λ i apart. elim apart [
      | inl low ↦ s.others i (inl low) ∙ r.others i (inl (omega (arith, low, left_is)))
      | inr high ↦ s.others i (inr (omega (arith, high, left_is, most))) ∙ r.others i (inr high)
    ];
  },
  λ j first less. elim (cases_lt j left) [
    | inl early ↦
        let there : to + j ≡ to + rest + (j - rest) = omega (arith, first) in
        let here : from + rest + (j - rest) ≡ from + j = omega (arith, first) in
        ap (slice_index new) there ∙ block (j - rest) (omega (arith, first, early, left_is)) ∙ ap (slice_index mid) here
        ∙ r.others (from + j) (inl (omega (arith, early, order)))
    | inr late ↦ s.others (to + j) (inr (omega (arith, late, left_is))) ∙ after j late less
  ],
)
