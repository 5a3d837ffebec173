use Rattle.std.proofs.Common.{◌≡◌, ◌*◌, ◌≤◌}
use Rattle.dirty_vector.specs.Marks.{is_marked, marked_count}
use Rattle.dirty_vector.proofs.marks.count_marks.Given as goal

abbrev pub invariant-loop-word : goal.invariant-loop-word
invariant-loop-word l = record { count : l.count ≡ marked_count (is_marked l.words) (64 * l.word-index); bound : l.count ≤ 64 * l.word-index }
