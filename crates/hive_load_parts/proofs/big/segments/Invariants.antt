use Rattle.std.proofs.Common.{◌≡◌, ◌≤◌, ◌+◌, length, take, flat_map, List, ℕ, Ok}
use Rattle.hive_cells.specs.Bins.{Cells, Shows}
use Rattle.hive_records.specs.Readers.{each}
use Rattle.hive_records.specs.Numbers.{words_from}
use Rattle.hive_records.specs.Values.{cell_prefix, segment_sizes, segments_of}
use Rattle.hive_records.specs.Follows.{Follows}
use Rattle.hive_load_parts.specs.CellReads.{Spreads, marks_of, set_flags}
use Rattle.hive_load_parts.proofs.big.segments.Given as goal

abbrev pub invariant-loop-index : goal.invariant-loop-index
invariant-loop-index l = record {
  covers : length l.seen ≡ length l.fn.seen;
  works : l.looks + set_flags l.fn.seen ≤ l.fn.looks + set_flags l.seen;
  spreads : Spreads l.image.bytes l.fn.seen l.seen;
  reads : (cells : Cells) → Shows l.image.bytes cells → (pieces : List (List ℕ)) × (l.bytes.items ≡ flat_map (λ p. p) pieces)
      × Follows (each (λ s. cell_prefix s.0 s.1) (take l.index (segment_sizes l.size (words_from l.list 0 4 (segments_of l.size))))) cells (marks_of l.fn.seen) (marks_of l.seen) (Ok pieces);
}
