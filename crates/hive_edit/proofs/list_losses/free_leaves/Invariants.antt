use Rattle.std.proofs.Common.{◌≡◌}
use Rattle.hive_cells.specs.Tiles.{cell_data}
use Rattle.hive_records.specs.Numbers.{words_from}
use Rattle.hive_edit.specs.SegmentCells.{FreesButKeeps}
use Rattle.hive_edit.proofs.list_losses.free_leaves.Given as goal

abbrev pub invariant-loop-index : goal.invariant-loop-index
invariant-loop-index l = record {
  freed : FreesButKeeps l.fn.image.bytes l.image.bytes (words_from (cell_data l.fn.image.bytes l.at) 4 4 l.count) l.at;
  saved : l.image.saved ≡ l.fn.image.saved;
}
