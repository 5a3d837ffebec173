use Rattle.std.proofs.Common.{ℕ, ◌-◌, ◌≤◌, ◌<◌, List, length}
use Rattle.hive_cells.specs.Tiles.{BinStart}
use Rattle.hive_check.specs.declared.cell_counts.CellCounts.{CellCounts}
use Rattle.hive_check.specs.CellCounts.{AddsCells, BinsFrom, CountsFit, no_cells}
use Rattle.hive_check.proofs.cell_counts.count_cells.Given as goal

-- whichever cells are counted from here on, with those before them they are all cells of the data
abbrev pub invariant-loop-bin : goal.invariant-loop-bin
invariant-loop-bin l = record {
  past : l.bin ≤ length l.bytes;
  fits : CountsFit l.counts l.bin;
  starts : l.bin < length l.bytes → BinStart l.bytes l.bin;
  rest : (cells : List ℕ) (last : CellCounts) → BinsFrom l.bytes l.bin cells → AddsCells l.bytes l.counts cells last → (all : List ℕ) × BinsFrom l.bytes 0 all × AddsCells l.bytes no_cells all last;
}

abbrev pub decreases-loop-bin : goal.decreases-loop-bin
decreases-loop-bin l = length l.bytes - l.bin
