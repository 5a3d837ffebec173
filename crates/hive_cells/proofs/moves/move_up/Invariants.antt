use Rattle.std.proofs.Common.{◌≡◌, ◌+◌, ◌<◌, ◌≤◌, ℕ, slice_index}
use Rattle.hive_cells.specs.Changes.{RewritesWithin}
use Rattle.hive_cells.proofs.moves.move_up.Given as goal

abbrev pub invariant-loop-left : goal.invariant-loop-left
invariant-loop-left l =
    record {
      within : l.left ≤ l.len;
      written : RewritesWithin l.fn.bytes l.bytes (l.to + l.left) (l.to + l.len);
      moved : (j : ℕ) → l.left ≤ j → j < l.len → slice_index l.bytes (l.to + j) ≡ slice_index l.fn.bytes (l.from + j);
    }

abbrev pub decreases-loop-left : goal.decreases-loop-left
decreases-loop-left l = l.left
