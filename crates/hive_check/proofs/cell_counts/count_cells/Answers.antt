use Rattle.std.proofs.Common.{◌≡◌, ◌+◌, [], ◌++◌, length, sym, subst, arith}
use Rattle.hive_cells.specs.Tiles.{first_bin, next_bin}
use Rattle.hive_check.specs.CellCounts.{BinsFrom, CellsFrom, bin_first, data_end}
use Rattle.hive_check.proofs.Cells.{adds_both, adds_none, counted}
use Rattle.hive_check.proofs.cell_counts.count_cells.Goals as goal

pub loop-bin-init : goal.loop-bin-init
loop-bin-init c = record {
  past = omega arith;
  fits = record { all = omega arith; free = omega arith; free_bytes = omega arith };
  starts = first_bin;
  rest = λ cells last from adds. (cells, from, adds);
}

pub loop-bin-preserved : goal.loop-bin-preserved
loop-bin-preserved c =
    let bytes = c.args.bytes.now in
    let bin = c.loop-bin.bin in
    let its = c.in_ok-bin.ensures in
    record {
      past = its.1;
      fits = its.2;
      starts = λ before. next_bin bin c.in_ok-bin.bin (c.loop-bin.invariant.starts c.loop-bin-test.true) its.3 its.4 before;
      rest = λ cells last from adds. c.loop-bin.invariant.rest (its.5 ++ cells) last
          (bin_first bin its.5 cells its.3 (subst (λ n. CellsFrom bytes n (bin + 32) its.5) its.4 its.6) (subst (λ n. BinsFrom bytes n cells) its.4 from))
          (adds_both bytes c.loop-bin.counts c.count_bin.new.counts last its.5 cells its.7 adds);
    }

pub returns : goal.returns
returns c =
    let bytes = c.args.bytes.now in
    let there : c.loop-bin.bin ≡ length bytes = omega (arith, c.loop-bin-test.false, c.loop-bin.invariant.past) in
    counted bytes c.loop-bin.counts (c.loop-bin.invariant.rest [] c.loop-bin.counts (subst (λ n. BinsFrom bytes n []) (sym there) data_end) (adds_none bytes c.loop-bin.counts))
