use Rattle.std.proofs.Common.{◌≡◌, ◌+◌, ◌-◌, ◌<◌, ◌≤◌, ℕ, length, slice_index}
use Rattle.commit_journal.proofs.moves.move_to_front.Given as goal

abbrev pub invariant-loop-moved : goal.invariant-loop-moved
invariant-loop-moved l =
    record {
      within : l.moved ≤ l.len;
      long : length l.bytes ≡ length l.fn.bytes;
      done : (j : ℕ) → j < l.moved → slice_index l.bytes j ≡ slice_index l.fn.bytes (l.start + j);
      rest : (i : ℕ) → l.moved ≤ i → slice_index l.bytes i ≡ slice_index l.fn.bytes i;
    }

abbrev pub decreases-loop-moved : goal.decreases-loop-moved
decreases-loop-moved l = l.len - l.moved
