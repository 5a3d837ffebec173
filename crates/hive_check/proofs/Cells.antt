-- The cells that follow one another in bins are all cells of the data.
use Rattle.std.proofs.Common.{◌≡◌, inl, inr, ℕ, ◌+◌, ◌%◌, ◌≤◌, ◌<◌, ◌≢◌, List, [], ◌++◌, refl, sym, ap, subst, arith, length, length-append, not}
use Rattle.std.specs.Prelude.{sum_by}
use Rattle.std.proofs.lemmas.List.Elements.{filter-append}
use Rattle.std.proofs.lemmas.List.Sums.{sum_by-append}
use Rattle.hive_tree_model.specs.Lists.{IsIn, Once}
use Rattle.hive_tree_model.proofs.Basics.{in_back, in_either, in_front, once_joined}
use Rattle.hive_cells.specs.Tiles.{BeginsCell, BinStart, CellStart, IsBin, bin_size, cell_size, is_allocated, first_bin, next_bin, first_cell, next_cell}
use Rattle.hive_check.specs.declared.cell_counts.CellCounts.{CellCounts}
use Rattle.hive_check.specs.CellCounts.{AddsCells, AreCells, CellsAreCounted, BinsFrom, CellsFrom, CountsFit, bin_ends, bin_first, cell_first, data_end, free_cells, no_cells}

-- ---- counts

pub adds_none : (bytes : List ℕ) (counts : CellCounts) → AddsCells bytes counts [] counts
adds_none bytes counts = record { all = omega arith; free = omega arith; free_bytes = omega arith }

pub adds_both : (bytes : List ℕ) (old mid new : CellCounts) (xs ys : List ℕ) → AddsCells bytes old xs mid → AddsCells bytes mid ys new → AddsCells bytes old (xs ++ ys) new
adds_both bytes old mid new xs ys one two =
    let free : free_cells bytes (xs ++ ys) ≡ free_cells bytes xs ++ free_cells bytes ys = filter-append (λ at. not (is_allocated bytes at)) xs ys in
    record {
      all = omega (arith, one.all, two.all, length-append xs ys);
      free = omega (arith, one.free, two.free, ap length free, length-append (free_cells bytes xs) (free_cells bytes ys));
      free_bytes = omega (arith, one.free_bytes, two.free_bytes, ap (sum_by (cell_size bytes)) free, sum_by-append (cell_size bytes) (free_cells bytes xs) (free_cells bytes ys));
    }

-- what is no more than an offset is no more than a later one
pub fits_on : (counts : CellCounts) (at to : ℕ) → CountsFit counts at → at ≤ to → CountsFit counts to
fits_on counts at to fits later = record { all = omega (arith, fits.all, later); free = omega (arith, fits.free, later); free_bytes = omega (arith, fits.free_bytes, later) }

-- ---- cells of a bin

-- a bin has more than its header
bin_long : (size : ℕ) → size % 4096 ≡ 0 → size ≢ 0 → 32 < size
bin_long size pages some = omega (arith, pages, some)

pub header_within : (bytes : List ℕ) (bin : ℕ) → IsBin bytes bin → bin + 32 < bin + bin_size bytes bin
header_within bytes bin is = omega (arith, bin_long (bin_size bytes bin) is.pages is.not_empty)

cells_within : (bytes : List ℕ) (end at : ℕ) (cells : List ℕ) → CellsFrom bytes end at cells → (x : ℕ) → IsIn x cells → (at ≤ x) × (x < end)
cells_within bytes end at cells bin_ends x i = absurd i
cells_within bytes end at cells (cell_first _ rest is from) x (inl e) = (omega (arith, e), omega (arith, e, is.least, is.within))
cells_within bytes end at cells (cell_first _ rest is from) x (inr i) =
    let later = cells_within bytes end (at + cell_size bytes at) rest from x i in
    (omega (arith, later.0), later.1)

cells_begin : (bytes : List ℕ) (end at : ℕ) (cells : List ℕ) → CellsFrom bytes end at cells → (at < end → CellStart bytes end at) → (x : ℕ) → IsIn x cells → CellStart bytes end x
cells_begin bytes end at cells bin_ends start x i = absurd i
cells_begin bytes end at cells (cell_first _ rest is from) start x (inl e) = subst (CellStart bytes end) (sym e) (start (omega (arith, is.least, is.within)))
cells_begin bytes end at cells (cell_first _ rest is from) start x (inr i) =
    cells_begin bytes end (at + cell_size bytes at) rest from (next_cell at (at + cell_size bytes at) (start (omega (arith, is.least, is.within))) is refl) x i

cells_once : (bytes : List ℕ) (end at : ℕ) (cells : List ℕ) → CellsFrom bytes end at cells → Once cells
cells_once bytes end at cells bin_ends = tt
cells_once bytes end at cells (cell_first _ rest is from) = (
  λ i. omega (arith, is.least, (cells_within bytes end (at + cell_size bytes at) rest from at i).0),
  cells_once bytes end (at + cell_size bytes at) rest from,
)

-- the first of them is where they begin; the others are those from its end on
first_in : (bytes : List ℕ) (end at : ℕ) (cells : List ℕ) → CellsFrom bytes end at cells → at < end → IsIn at cells
first_in bytes end at cells bin_ends before = absurd (omega (arith, before))
first_in bytes end at cells (cell_first _ rest is from) before = inl refl

others_in : (bytes : List ℕ) (end at : ℕ) (cells : List ℕ) → CellsFrom bytes end at cells → at < end → (rest : List ℕ) × CellsFrom bytes end (at + cell_size bytes at) rest × ((x : ℕ) → IsIn x rest → IsIn x cells)
others_in bytes end at cells bin_ends before = absurd (omega (arith, before))
others_in bytes end at cells (cell_first _ rest is from) before = (rest, from, λ x i. inr i)

-- ---- cells of bins

bins_within : (bytes : List ℕ) (at : ℕ) (cells : List ℕ) → BinsFrom bytes at cells → (x : ℕ) → IsIn x cells → at ≤ x
bins_within bytes at cells data_end x i = absurd i
bins_within bytes at all (bin_first _ cells rest is own from) x i =
    elim (in_either x cells rest i) [
      | inl here ↦ omega (arith, (cells_within bytes (at + bin_size bytes at) (at + 32) cells own x here).0)
      | inr later ↦ omega (arith, bins_within bytes (at + bin_size bytes at) rest from x later)
    ]

bins_begin : (bytes : List ℕ) (at : ℕ) (cells : List ℕ) → BinsFrom bytes at cells → (at < length bytes → BinStart bytes at) → (x : ℕ) → IsIn x cells → BeginsCell bytes x
bins_begin bytes at cells data_end start x i = absurd i
bins_begin bytes at all (bin_first _ cells rest is own from) start x i =
    let end = at + bin_size bytes at in
    let begins : BinStart bytes at = start (omega (arith, is.within, header_within bytes at is)) in
    elim (in_either x cells rest i) [
      | inl here ↦ (end, cells_begin bytes end (at + 32) cells own (λ before. first_cell at (at + 32) begins is refl refl) x here)
      | inr later ↦ bins_begin bytes end rest from (next_bin at end begins is refl) x later
    ]

bins_once : (bytes : List ℕ) (at : ℕ) (cells : List ℕ) → BinsFrom bytes at cells → Once cells
bins_once bytes at cells data_end = tt
bins_once bytes at all (bin_first _ cells rest is own from) =
    once_joined cells rest (cells_once bytes (at + bin_size bytes at) (at + 32) cells own) (bins_once bytes (at + bin_size bytes at) rest from)
    (λ x here later. omega (arith, (cells_within bytes (at + bin_size bytes at) (at + 32) cells own x here).1, bins_within bytes (at + bin_size bytes at) rest from x later))

-- the cells of the first bin, and of the others
own_in : (bytes : List ℕ) (at : ℕ) (cells : List ℕ) → BinsFrom bytes at cells → at < length bytes
    → (own : List ℕ) × CellsFrom bytes (at + bin_size bytes at) (at + 32) own × ((x : ℕ) → IsIn x own → IsIn x cells)
own_in bytes at cells data_end before = absurd (omega (arith, before))
own_in bytes at all (bin_first _ cells rest is own from) before = (cells, own, λ x i. in_front x cells rest i)

rest_in : (bytes : List ℕ) (at : ℕ) (cells : List ℕ) → BinsFrom bytes at cells → at < length bytes
    → (rest : List ℕ) × BinsFrom bytes (at + bin_size bytes at) rest × ((x : ℕ) → IsIn x rest → IsIn x cells)
rest_in bytes at cells data_end before = absurd (omega (arith, before))
rest_in bytes at all (bin_first _ cells rest is own from) before = (rest, from, λ x i. in_back x cells rest i)

-- ---- all cells

module _ (bytes all : List ℕ) (bins : BinsFrom bytes 0 all) where
  bin_reached : (at : ℕ) → BinStart bytes at → (rest : List ℕ) × BinsFrom bytes at rest × ((x : ℕ) → IsIn x rest → IsIn x all)
  bin_reached at (first_bin some) = (all, bins, λ x i. i)
  bin_reached at (next_bin from _ start is e before) =
      let front = bin_reached from start in
      let rest = rest_in bytes from front.0 front.1 (omega (arith, e, before)) in
      (rest.0, subst (λ n. BinsFrom bytes n rest.0) (sym e) rest.1, λ x i. front.2 x (rest.2 x i))

  cell_before : (end at : ℕ) → CellStart bytes end at → at < end
  cell_before end at (first_cell bin _ start is e here) = omega (arith, e, here, header_within bytes bin is)
  cell_before end at (next_cell from _ start is e before) = before

  cell_reached : (end at : ℕ) → CellStart bytes end at → (cells : List ℕ) × CellsFrom bytes end at cells × ((x : ℕ) → IsIn x cells → IsIn x all)
  cell_reached end at (first_cell bin _ start is e here) =
      let front = bin_reached bin start in
      let own = own_in bytes bin front.0 front.1 (omega (arith, is.within, header_within bytes bin is)) in
      (own.0, subst (λ n. CellsFrom bytes end n own.0) (sym here) (subst (λ n. CellsFrom bytes n (bin + 32) own.0) (sym e) own.1), λ x i. front.2 x (own.2 x i))
  cell_reached end at (next_cell from _ start is e before) =
      let front = cell_reached end from start in
      let rest = others_in bytes end from front.0 front.1 (cell_before end from start) in
      (rest.0, subst (λ n. CellsFrom bytes end n rest.0) (sym e) rest.1, λ x i. front.2 x (rest.2 x i))

  pub are_cells : AreCells bytes all
  are_cells = record {
    begin = λ x i. bins_begin bytes 0 all bins first_bin x i;
    all = λ x b. let found = cell_reached b.0 x b.1 in found.2 x (first_in bytes b.0 x found.0 found.1 (cell_before b.0 x b.1));
    once = bins_once bytes 0 all bins;
  }

pub counted : (bytes : List ℕ) (counts : CellCounts) → (all : List ℕ) × BinsFrom bytes 0 all × AddsCells bytes no_cells all counts → CellsAreCounted bytes counts
counted bytes counts (all, bins, adds) = (all, are_cells bytes all bins, adds)
