use Rattle.std.proofs.Common.{◌≡◌, ◌≤◌, ◌+◌, length, take, Ok}
use Rattle.hive_cells.specs.Bins.{Cells, Shows}
use Rattle.hive_records.specs.Readers.{each}
use Rattle.hive_records.specs.Numbers.{words_from}
use Rattle.hive_records.specs.Values.{value_at}
use Rattle.hive_records.specs.Follows.{Follows}
use Rattle.hive_load_parts.specs.CellReads.{Spreads, marks_of, set_flags}
use Rattle.hive_load_parts.proofs.values.listed.Given as goal

abbrev pub invariant-loop-index : goal.invariant-loop-index
invariant-loop-index l = record {
  covers : length l.seen ≡ length l.fn.seen;
  works : l.looks + set_flags l.fn.seen ≤ l.fn.looks + set_flags l.seen;
  spreads : Spreads l.image.bytes l.fn.seen l.seen;
  reads : (cells : Cells) → Shows l.image.bytes cells → Follows (each (value_at l.split) (take l.index (words_from l.list 0 4 l.count))) cells (marks_of l.fn.seen) (marks_of l.seen) (Ok l.found.items);
}
