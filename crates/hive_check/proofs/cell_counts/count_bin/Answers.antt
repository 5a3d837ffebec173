use Rattle.std.proofs.Common.{◌≡◌, ◌+◌, [], ◌∷◌, refl, sym, subst, arith}
use Rattle.hive_cells.specs.Tiles.{first_cell, next_cell}
use Rattle.hive_check.specs.CellCounts.{CellsFrom, bin_ends, cell_first}
use Rattle.hive_check.proofs.Cells.{adds_both, adds_none, fits_on}
use Rattle.hive_check.proofs.cell_counts.count_bin.Goals as goal

pub loop-cell-init : goal.loop-cell-init
loop-cell-init c = record {
  past = omega (arith, c.in_ok-end.ensures.0);
  fits = fits_on c.args.counts.now c.args.bin (c.args.bin + 32) c.requires.fits (omega arith);
  starts = λ _. first_cell c.args.bin (c.args.bin + 32) c.requires.starts c.in_ok-end.ensures.2 c.in_ok-end.ensures.3 refl;
  rest = λ cells last from adds. (cells, from, adds);
}

pub loop-cell-preserved : goal.loop-cell-preserved
loop-cell-preserved c =
    let bytes = c.args.bytes.now in
    let end = c.in_ok-end.end in
    let cell = c.loop-cell.cell in
    let its = c.in_ok-cell.ensures in
    record {
      past = its.1;
      fits = its.2;
      starts = λ before. next_cell cell c.in_ok-cell.cell (c.loop-cell.invariant.starts c.loop-cell-test.true) its.3 its.4 before;
      rest = λ cells last from adds. c.loop-cell.invariant.rest (cell ∷ cells) last
          (cell_first cell cells its.3 (subst (λ n. CellsFrom bytes end n cells) its.4 from))
          (adds_both bytes c.loop-cell.counts c.count_cell.new.counts last (cell ∷ []) cells its.5 adds);
    }

pub returns : goal.returns
returns c =
    let bytes = c.args.bytes.now in
    let end = c.in_ok-end.end in
    let there : c.loop-cell.cell ≡ end = omega (arith, c.loop-cell-test.false, c.loop-cell.invariant.past) in
    let all = c.loop-cell.invariant.rest [] c.loop-cell.counts (subst (λ n. CellsFrom bytes end n []) (sym there) bin_ends) (adds_none bytes c.loop-cell.counts) in
    (omega (arith, c.in_ok-end.ensures.0), c.in_ok-end.ensures.1, fits_on c.loop-cell.counts c.loop-cell.cell end c.loop-cell.invariant.fits (omega (arith, there)), c.in_ok-end.ensures.2, c.in_ok-end.ensures.3, all.0, all.1, all.2)
