-- Where cells begin, and what data show at an offset after one cell changed.
use Rattle.std.proofs.Common.{◌≡◌, ◌≢◌, inl, inr, ℕ, ◌+◌, ◌%◌, ◌≤◌, cond, eqb, List, length, refl, sym, ◌∙◌, ap, subst, arith, Option, Some, None, MatchOption}
use Rattle.std.proofs.lemmas.Bool.{cases_eq}
use Rattle.std.proofs.lemmas.Bool.Decides.{eqb_tells}
use Rattle.hive_cells.specs.Tiles.{BinStart, first_bin, next_bin, CellStart, first_cell, next_cell, IsAllocatedCell, cell_size, cell_data, bin_size}
use Rattle.hive_cells.specs.Bins.{Cells, Shows}
use Rattle.hive_cells.specs.Changes.{OthersStay, StaysAt}

-- bins begin at multiples of 4,096, cells at multiples of 8
bin_pages : (bytes : List ℕ) (at : ℕ) → BinStart bytes at → at % 4096 ≡ 0
bin_pages bytes _ (first_bin some) = refl
bin_pages bytes _ (next_bin from at start bin is within) =
    let before : from % 4096 ≡ 0 = bin_pages bytes from start in
    let pages : bin_size bytes from % 4096 ≡ 0 = bin.pages in
    let sum : at ≡ from + bin_size bytes from = is in
    omega (arith, before, pages, sum)

pub cell_eights : (bytes : List ℕ) (end at : ℕ) → CellStart bytes end at → at % 8 ≡ 0
cell_eights bytes end _ (first_cell bin at start is ends begins) =
    let before : bin % 4096 ≡ 0 = bin_pages bytes bin start in
    let sum : at ≡ bin + 32 = begins in
    omega (arith, before, sum)
cell_eights bytes end _ (next_cell from at start is next within) =
    let before : from % 8 ≡ 0 = cell_eights bytes end from start in
    let eights : cell_size bytes from % 8 ≡ 0 = is.eights in
    let sum : at ≡ from + cell_size bytes from = next in
    omega (arith, before, eights, sum)

-- the bin of a cell ends within the data
pub end_within : (bytes : List ℕ) (end at : ℕ) → CellStart bytes end at → end ≤ length bytes
end_within bytes end _ (first_cell bin at start is ends begins) = let w : bin + bin_size bytes bin ≤ length bytes = is.within in omega (arith, w, ends)
end_within bytes end _ (next_cell from at start is next within) = end_within bytes end from start

-- the cells with other data at one offset
pub put_at : Cells → ℕ → List ℕ → Cells
put_at before at its cell = cond (eqb cell at) (Some its) (before cell)

pub put_here : (before : Cells) (at : ℕ) (its : List ℕ) (cell : ℕ) → cell ≡ at → put_at before at its cell ≡ Some its
unfolding put_at
put_here before at its cell e = elim (eqb_tells cell at) [ inl h ↦ ap (λ b. cond b (Some its) (before cell)) h.0 | inr h ↦ absurd (h.1 e) ]

pub put_there : (before : Cells) (at : ℕ) (its : List ℕ) (cell : ℕ) → cell ≢ at → put_at before at its cell ≡ before cell
unfolding put_at
put_there before at its cell e = elim (eqb_tells cell at) [ inl h ↦ absurd (e h.1) | inr h ↦ ap (λ b. cond b (Some its) (before cell)) h.0 ]

-- what is shown at an offset
abbrev pub ShowsAt : List ℕ → ℕ → Option (List ℕ) → Type 0
ShowsAt bytes at o = MatchOption o (¬ IsAllocatedCell bytes at) (λ its. IsAllocatedCell bytes at × (its ≡ cell_data bytes at))

pub stays_shown : (old new : List ℕ) (at : ℕ) → StaysAt old new at → (o : Option (List ℕ)) → ShowsAt old at o → ShowsAt new at o
stays_shown old new at s None h = λ found. h (s.same.0 found)
stays_shown old new at s (Some its) h = (s.same.1 h.0, h.1 ∙ sym (s.kept h.0))

pub put_shown : (old new : List ℕ) (at : ℕ) (before : Cells) → Shows old before → IsAllocatedCell new at → OthersStay old new at → Shows new (put_at before at (cell_data new at))
put_shown old new at before shows begins others cell = elim (cases_eq cell at) [
  | inl here ↦ subst (ShowsAt new cell) (sym (put_here before at (cell_data new at) cell here)) (subst (IsAllocatedCell new) (sym here) begins, ap (cell_data new) (sym here))
  | inr there ↦ subst (ShowsAt new cell) (sym (put_there before at (cell_data new at) cell there)) (stays_shown old new cell (others cell there) (before cell) (shows cell))
]

pub none_shown : (bytes : List ℕ) (at : ℕ) → ¬ IsAllocatedCell bytes at → (o : Option (List ℕ)) → ShowsAt bytes at o → o ≡ None
none_shown bytes at none None h = refl
none_shown bytes at none (Some its) h = absurd (none h.0)
