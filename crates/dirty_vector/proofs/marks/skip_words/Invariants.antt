use Rattle.std.proofs.Common.{◌≡◌, ◌*◌, ◌+◌}
use Rattle.dirty_vector.specs.Marks.{is_marked, marked_count}
use Rattle.dirty_vector.proofs.marks.skip_words.Given as goal

abbrev pub invariant-loop-place : goal.invariant-loop-place
invariant-loop-place l = marked_count (is_marked l.words) (64 * l.place) + l.left ≡ l.index
