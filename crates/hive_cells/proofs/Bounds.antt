-- Bounds of the sizes of free cells.
use Rattle.std.proofs.Common.{◌≡◌, ◌≢◌, ℕ, ◌+◌, ◌-◌, ◌*◌, ◌/◌, ◌%◌, ◌<◌, ◌≤◌, min, List, length, drop, refl, sym, ◌∙◌, subst, inl, inr, arith, ap}
use Rattle.std.specs.Prelude.{slice_index, slice_range, slice_set}
use Rattle.std.proofs.lemmas.Bool.{cases_eq, cases_lt}
use Rattle.std.proofs.lemmas.List.{length-set, get_or-set_same, get_or-set_other, get_or_past, get_or-take, get_or-drop}
use Rattle.hive_cells.specs.Tiles.{BeginsCell, IsFreeCell, cell_size}
use Rattle.hive_cells.specs.Marks.{IsWholeCell}
use Rattle.hive_cells.specs.Starts.{AreGrouped, AreBounds, AreBoundsBut, Raises, SameCell, OtherCells, bound_at, HasStartBits}
use Rattle.hive_cells.proofs.Region.{free_was}
use Rattle.hive_cells.proofs.CellChanges.{cell_within}

-- ---- groups of pages

-- the greatest bound of a group, made again
pub group_put : (pages groups : List ℕ) (page size most end : ℕ) → AreGrouped pages groups → page < length pages → end ≡ min (page - page % 128 + 128) (length pages)
    → ((k : ℕ) → slice_index (slice_range (slice_set pages page size) (page - page % 128) end) k ≤ most)
    → AreGrouped (slice_set pages page size) (slice_set groups (page / 128) most)
group_put pages groups page size most end g within end_is all =
    let first : ℕ = page - page % 128 in
    let new : List ℕ = slice_set pages page size in
    let long : length new ≡ length pages = length-set pages page size in
    let enough : length pages ≤ 128 * length groups = g.enough in
    let in_group : (k : ℕ) → k / 128 ≡ page / 128 → slice_index new k ≤ most = (λ k same. elim (cases_lt k (length pages)) [
      | inl low ↦
          let part : slice_index (slice_range new first end) (k - first) ≡ slice_index new k =
          get_or-take (end - first) (drop first new) (k - first) 0 (omega arith) ∙ get_or-drop first new (k - first) 0 ∙ ap (slice_index new) (let e : first + (k - first) ≡ k = omega arith in e) in
          omega (arith, all (k - first), part)
      | inr past ↦ omega (arith, get_or_past new k 0 (omega arith))
    ]) in
    record {
      enough = omega (arith, length-set groups (page / 128) most);
      most = λ k. elim (cases_eq (k / 128) (page / 128)) [
        | inl same ↦
            let here : slice_index (slice_set groups (page / 128) most) (k / 128) ≡ most = ap (slice_index (slice_set groups (page / 128) most)) same ∙ get_or-set_same groups (page / 128) most 0 (omega arith) in
            omega (arith, here, in_group k same)
        | inr other ↦
            let apart : k ≢ page = omega (arith, other) in
            let there : slice_index (slice_set groups (page / 128) most) (k / 128) ≡ slice_index groups (k / 128) = get_or-set_other groups (page / 128) (k / 128) most 0 other in
            let was : slice_index new k ≡ slice_index pages k = get_or-set_other pages page k size 0 apart in
            omega (arith, there, was, g.most k)
      ];
    }

-- ---- cells that are the same

-- the same bytes have the same cells
pub same_cell : (bytes : List ℕ) (at : ℕ) → SameCell bytes bytes at
same_cell bytes at = record { begins = λ found. found; began = λ found. found; word = λ found. refl }

-- ---- bounds over a change

-- the bounds hold but for the second of two cells, if they hold of the first
pub bounds_on : (old new bounds : List ℕ) (a b : ℕ) → AreBounds old bounds → OtherCells old new a b → length new ≡ length old → (a ≢ b → IsFreeCell new a → cell_size new a ≤ bound_at bounds a) → AreBoundsBut new bounds b
bounds_on old new bounds a b m cells len first =
    record {
      len = omega (arith, m.len);
      most = λ at apart free. elim (cases_eq at a) [
        | inl same ↦ subst (λ (x : ℕ). cell_size new x ≤ bound_at bounds x) (sym same) (first (λ e. apart (same ∙ e)) (subst (λ (x : ℕ). IsFreeCell new x) same free))
        | inr other ↦ let was = free_was old new at (cells at other apart) free in omega (arith, was.1, m.most at was.0)
      ];
    }

-- the bound of the cell left out is raised
pub bounds_noted : (bytes bounds bounds' : List ℕ) (at : ℕ) → AreBoundsBut bytes bounds at → Raises bounds bounds' (at / 4096) (cell_size bytes at) → AreBounds bytes bounds'
bounds_noted bytes bounds bounds' at m r =
    record {
      len = omega (arith, m.len, r.len);
      most = λ other free. elim (cases_eq other at) [
        | inl same ↦ subst (λ (x : ℕ). cell_size bytes x ≤ bound_at bounds' x) (sym same) r.here
        | inr apart ↦ omega (arith, m.most other apart free, r.more (other / 4096))
      ];
    }

-- the cell left out is not free
pub bounds_all : (bytes bounds : List ℕ) (at : ℕ) → AreBoundsBut bytes bounds at → (¬ IsFreeCell bytes at) → AreBounds bytes bounds
bounds_all bytes bounds at m none =
    record {
      len = m.len;
      most = λ other free. elim (cases_eq other at) [
        | inl same ↦ absurd (none (subst (λ (x : ℕ). IsFreeCell bytes x) same free))
        | inr apart ↦ m.most other apart free
      ];
    }

-- the page of a cell has a bound, and its size is there to be read
pub page_of : (bytes words bounds : List ℕ) (at : ℕ) → HasStartBits bytes words → length bytes ≤ 4096 * length bounds → BeginsCell bytes at → (at + 4 ≤ length bytes) × (at / 4096 < length bounds)
page_of bytes words bounds at k len found =
    let w : IsWholeCell bytes at = cell_within bytes words at k found in
    (omega (arith, w.least, w.within), omega (arith, w.least, w.within))
