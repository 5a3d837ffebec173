-- Lists of offsets in which one is inserted, or from which one is taken, by bytes that are shifted.
use Rattle.std.specs.Prelude.{◌≡◌, ℕ, zero, suc, ◌+◌, ◌*◌, ◌<◌, ◌≤◌, List, [], ◌∷◌, slice_index}
use Rattle.hive_cells.specs.Tiles.{u32_at}

-- a list with one element more, before the i-th; a list without its i-th
abbrev pub with_at : ℕ → ℕ → List ℕ → List ℕ
with_at zero x ws = x ∷ ws
with_at (suc i) x [] = x ∷ []
with_at (suc i) x (w ∷ ws) = w ∷ with_at i x ws

abbrev pub without_at : ℕ → List ℕ → List ℕ
without_at i [] = []
without_at zero (w ∷ ws) = ws
without_at (suc i) (w ∷ ws) = w ∷ without_at i ws

-- Of n elements of a stride, which begin at a byte, those from the i-th on are one element further on, and a word is in
-- the gap. Old and new bytes may be those of two cells.
pub record ShiftsIn (old new : List ℕ) (from stride n i x : ℕ) : Type 0 where
  pub wide : 4 ≤ stride
  pub before : (j : ℕ) → from ≤ j → j < from + stride * i → slice_index new j ≡ slice_index old j
  pub here : u32_at new (from + stride * i) ≡ x
  pub after : (j : ℕ) → from + stride * i ≤ j → j < from + stride * n → slice_index new (j + stride) ≡ slice_index old j

-- Of n + 1 elements, those after the i-th are one element further back, over it.
pub record ShiftsOut (old new : List ℕ) (from stride n i : ℕ) : Type 0 where
  pub wide : 4 ≤ stride
  pub before : (j : ℕ) → from ≤ j → j < from + stride * i → slice_index new j ≡ slice_index old j
  pub after : (j : ℕ) → from + stride * i ≤ j → j < from + stride * n → slice_index new j ≡ slice_index old (j + stride)
