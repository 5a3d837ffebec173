use Rattle.std.proofs.Common.{◌≡◌, ◌+◌, ◌-◌, ◌<◌, ◌≤◌, ℕ, slice_index}
use Rattle.hive_cells.specs.Changes.{RewritesWithin}
use Rattle.hive_cells.proofs.moves.move_down.Given as goal

abbrev pub invariant-loop-moved : goal.invariant-loop-moved
invariant-loop-moved l =
    record {
      within : l.moved ≤ l.len;
      written : RewritesWithin l.fn.bytes l.bytes l.to (l.to + l.moved);
      moved : (j : ℕ) → j < l.moved → slice_index l.bytes (l.to + j) ≡ slice_index l.fn.bytes (l.from + j);
    }

abbrev pub decreases-loop-moved : goal.decreases-loop-moved
decreases-loop-moved l = l.len - l.moved
