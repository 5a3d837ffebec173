use Rattle.std.proofs.Common.{◌≡◌}
use Rattle.hive_edit.specs.DataPlaces.{FreesCells}
use Rattle.hive_edit.proofs.cell_frees.free_cells.Given as goal

abbrev pub invariant-loop-at : goal.invariant-loop-at
invariant-loop-at l = record {
  freed : FreesCells l.fn.image.bytes l.image.bytes l.cells;
  saved : l.image.saved ≡ l.fn.image.saved;
}
