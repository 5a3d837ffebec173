use Rattle.std.proofs.Common.{◌≡◌, ◌≤◌, ◌+◌, length, take, flat_map, List, ℕ, Ok}
use Rattle.hive_cells.specs.Bins.{Cells, Shows}
use Rattle.hive_records.specs.Readers.{each}
use Rattle.hive_records.specs.Lists.{leaf_at}
use Rattle.hive_records.specs.Follows.{Follows}
use Rattle.hive_load_parts.specs.CellReads.{Spreads, marks_of, set_flags}
use Rattle.hive_load_parts.proofs.lists.leaves.Given as goal

abbrev pub invariant-loop-at : goal.invariant-loop-at
invariant-loop-at l = record {
  covers : length l.seen ≡ length l.fn.seen;
  works : l.looks + set_flags l.fn.seen ≤ l.fn.looks + set_flags l.seen;
  spreads : Spreads l.image.bytes l.fn.seen l.seen;
  reads : (cells : Cells) → Shows l.image.bytes cells → (found : List (List ℕ)) × (l.subkey_list.items ≡ flat_map (λ p. p) found)
      × Follows (each leaf_at (take l.at-index l.lists)) cells (marks_of l.fn.seen) (marks_of l.seen) (Ok found);
}
