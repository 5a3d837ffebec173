use Rattle.std.proofs.Common.{ℕ, ◌-◌, ◌≤◌, ◌<◌, List}
use Rattle.hive_cells.specs.Tiles.{CellStart}
use Rattle.hive_check.specs.declared.cell_counts.CellCounts.{CellCounts}
use Rattle.hive_check.specs.CellCounts.{AddsCells, CellsFrom, CountsFit}
use Rattle.hive_check.proofs.cell_counts.count_bin.Given as goal

-- whichever cells are counted from here on, with those before them they are all cells of the bin
abbrev pub invariant-loop-cell : goal.invariant-loop-cell
invariant-loop-cell l = record {
  past : l.cell ≤ l.end;
  fits : CountsFit l.counts l.cell;
  starts : l.cell < l.end → CellStart l.bytes l.end l.cell;
  rest : (cells : List ℕ) (last : CellCounts) → CellsFrom l.bytes l.end l.cell cells → AddsCells l.bytes l.counts cells last → (all : List ℕ) × CellsFrom l.bytes l.end l.initial.cell all × AddsCells l.bytes l.initial.counts all last;
}

abbrev pub decreases-loop-cell : goal.decreases-loop-cell
decreases-loop-cell l = l.end - l.cell
