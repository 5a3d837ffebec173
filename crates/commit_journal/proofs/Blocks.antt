-- Bytes that are moved to the front a block at a time.
use Rattle.std.proofs.Common.{◌≡◌, ◌+◌, ◌-◌, ◌<◌, ◌≤◌, ℕ, List, length, take, drop, slice_index, inl, inr, sym, ap, ◌∙◌, arith, length-take, length-drop}
use Rattle.std.proofs.lemmas.Bool.{cases_lt}
use Rattle.std.proofs.lemmas.List.{get_or-take, get_or-drop}
use Rattle.std.proofs.lemmas.Grind.{same_number_lists}

-- the block after those that were moved
pub block_moved : (old mid new : List ℕ) (start moved count : ℕ) → ((j : ℕ) → j < moved → slice_index mid j ≡ slice_index old (start + j))
    → ((i : ℕ) → moved ≤ i → slice_index mid i ≡ slice_index old i) → ((i : ℕ) → i < moved → slice_index new i ≡ slice_index mid i)
    → ((j : ℕ) → j < count → slice_index new (moved + j) ≡ slice_index mid (start + moved + j)) → (j : ℕ) → j < moved + count → slice_index new j ≡ slice_index old (start + j)
block_moved old mid new start moved count done rest before block j less = elim (cases_lt j moved) [
  | inl early ↦ before j early ∙ done j early
  | inr late ↦
      let there : j ≡ moved + (j - moved) = omega (arith, late) in
      let here : start + moved + (j - moved) ≡ start + j = omega (arith, late) in
      ap (slice_index new) there ∙ block (j - moved) (omega (arith, late, less)) ∙ ap (slice_index mid) here ∙ rest (start + j) (omega (arith, late))
]

-- what is at the front then
pub front_moved : (old new : List ℕ) (start count : ℕ) → start + count ≤ length old → length new ≡ length old
    → ((j : ℕ) → j < count → slice_index new j ≡ slice_index old (start + j)) → take count new ≡ take count (drop start old)
front_moved old new start count inside long each =
    same_number_lists (take count new) (take count (drop start old)) (omega (arith, length-take count new, length-take count (drop start old), length-drop start old, inside, long))
    (λ k lt. let less : k < count = omega (arith, lt, length-take count new) in
    get_or-take count new k 0 less ∙ each k less ∙ sym (get_or-take count (drop start old) k 0 less ∙ get_or-drop start old k 0))
