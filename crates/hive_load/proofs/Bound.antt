-- Flags that are set at cells alone are no more than these.
use Rattle.std.proofs.Common.{◌≡◌, ◌⊎◌, ◌≤◌, ◌+◌, ◌*◌, ◌/◌, ◌%◌, ◌==◌, inl, inr, ℕ, suc, Bool, true, false, List, [], ◌∷◌, length, refl, ◌∙◌, ap, sym, arith, slice_index_or, eqb, ◌||◌}
use Rattle.std.specs.List.{AllByRecursion, IsDistinct, list_any}
use Rattle.std.proofs.lemmas.Bool.{eqb-true, eq-eqb}
use Rattle.std.proofs.lemmas.Cmp.{nat_eq_equiv}
use Rattle.std.proofs.lemmas.Map.Made.{length-le_from_is_member}
use Rattle.hive_tree_model.specs.Lists.{IsIn}
use Rattle.hive_tree_model.proofs.Basics.{decided, clash, yes_if}
use Rattle.hive_cells.specs.Tiles.{IsAllocatedCell}
use Rattle.hive_load_parts.specs.CellReads.{marks_of, set_flags, Spreads}
use Rattle.hive_load.specs.Limits.{AreAllCells}

-- the offsets at which flags are set, from an index on
abbrev places : List Bool → ℕ → List ℕ
places [] k = []
places (true ∷ flags) k = 8 * k ∷ places flags (suc k)
places (false ∷ flags) k = places flags (suc k)

length_places : (flags : List Bool) (k : ℕ) → length (places flags k) ≡ set_flags flags
length_places [] k = refl
length_places (true ∷ flags) k = let e = length_places flags (suc k) in omega (arith, e)
length_places (false ∷ flags) k = let e = length_places flags (suc k) in omega (arith, e)

place_of : (flags : List Bool) (k at : ℕ) → IsIn at (places flags k) → (i : ℕ) × (at ≡ 8 * (k + i)) × (slice_index_or flags i false ≡ true)
place_of [] k at h = absurd h
place_of (true ∷ flags) k at (inl e) = (0, omega (arith, e), refl)
place_of (true ∷ flags) k at (inr h) = let its : (i : ℕ) × (at ≡ 8 * (suc k + i)) × (slice_index_or flags i false ≡ true) = place_of flags (suc k) at h in (suc its.0, let e = its.1 in omega (arith, e), its.2)
place_of (false ∷ flags) k at h = let its : (i : ℕ) × (at ≡ 8 * (suc k + i)) × (slice_index_or flags i false ≡ true) = place_of flags (suc k) at h in (suc its.0, let e = its.1 in omega (arith, e), its.2)

member : (xs : List ℕ) (q : ℕ) → list_any (eqb q) xs ≡ true → IsIn q xs
member [] q e = clash false e refl
member (x ∷ xs) q e = elim (decided (eqb q x)) [ inl t ↦ inl (eqb-true q x t) | inr f ↦ inr (member xs q (sym (ap (λ b. b || list_any (eqb q) xs) f) ∙ e)) ]

is_member_of : (xs : List ℕ) (q : ℕ) → IsIn q xs → list_any (eqb q) xs ≡ true
is_member_of [] q h = absurd h
is_member_of (x ∷ xs) q (inl e) = ap (λ b. b || list_any (eqb q) xs) (eq-eqb q x e)
is_member_of (x ∷ xs) q (inr h) = either (eqb q x) (list_any (eqb q) xs) (is_member_of xs q h)
  where
    either : (a b : Bool) → b ≡ true → (a || b) ≡ true
    either true b e = refl
    either false b e = e

apart : (x : ℕ) (xs : List ℕ) → (IsIn x xs → ⊥) → AllByRecursion (λ y. eqb x y ≡ false) xs
apart x [] h = tt
apart x (y ∷ ys) h = (elim (decided (eqb x y)) [ inl t ↦ absurd (h (inl (eqb-true x y t))) | inr f ↦ f ], apart x ys (λ i. h (inr i)))

places_distinct : (flags : List Bool) (k : ℕ) → IsDistinct eqb (places flags k)
unfolding IsDistinct
places_distinct [] k = tt
places_distinct (true ∷ flags) k = (apart (8 * k) (places flags (suc k)) (λ h. later (place_of flags (suc k) (8 * k) h)), places_distinct flags (suc k))
  where
    later : (i : ℕ) × (8 * k ≡ 8 * (suc k + i)) × (slice_index_or flags i false ≡ true) → ⊥
    later its = let e = its.1 in absurd (omega (arith, e))
places_distinct (false ∷ flags) k = places_distinct flags (suc k)

eights : (at i : ℕ) → at ≡ 8 * (0 + i) → at % 8 ≡ 0
eights at i e = omega (arith, e)

eighth : (at i : ℕ) → at ≡ 8 * (0 + i) → i ≡ at / 8
eighth at i e = omega (arith, e)

marked_place : (seen : List Bool) (at : ℕ) → IsIn at (places seen 0) → marks_of seen at ≡ true
marked_place seen at h =
    let its : (i : ℕ) × (at ≡ 8 * (0 + i)) × (slice_index_or seen i false ≡ true) = place_of seen 0 at h in
    yes_if (at % 8 == 0) (slice_index_or seen (at / 8) false) false (eq-eqb (at % 8) 0 (eights at its.0 its.1)) ∙ ap (λ i. slice_index_or seen i false) (sym (eighth at its.0 its.1)) ∙ its.2

pub few_flags : (bytes : List ℕ) (seen : List Bool) → ((at : ℕ) → marks_of seen at ≡ true → IsAllocatedCell bytes at) → (cells : List ℕ) → AreAllCells bytes cells → set_flags seen ≤ length cells
few_flags bytes seen marked cells all =
    let most = length-le_from_is_member nat_eq_equiv (places seen 0) cells (places_distinct seen 0) (λ q h. is_member_of cells q (all q (marked q (marked_place seen q (member (places seen 0) q h))))) in
    let count = length_places seen 0 in
    omega (arith, most, count)

-- looks that set flags if none was set
pub few_looks : (bytes : List ℕ) (seen new : List Bool) (before after : ℕ) → ((at : ℕ) → marks_of seen at ≡ false) → Spreads bytes seen new → after + 2 * set_flags seen ≤ before + 2 * set_flags new + 2 → (cells : List ℕ) → AreAllCells bytes cells → after ≤ before + 2 * length cells + 2
few_looks bytes seen new before after unset s works cells all =
    let few = few_flags bytes new (λ at h. by_either at (s.cells at h)) cells all in
    omega (arith, works, few)
  where
    by_either : (at : ℕ) → (marks_of seen at ≡ true) ⊎ IsAllocatedCell bytes at → IsAllocatedCell bytes at
    by_either at (inl h) = clash (marks_of seen at) h (unset at)
    by_either at (inr i) = i
