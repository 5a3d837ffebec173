use Rattle.std.proofs.Common.{◌≡◌, ◌+◌}
use Rattle.dirty_vector.specs.Marks.{is_marked, marked_count}
use Rattle.dirty_vector.proofs.marks.nth_mark.Given as goal

abbrev pub invariant-loop-page : goal.invariant-loop-page
invariant-loop-page l = marked_count (is_marked l.words) l.page + l.left ≡ l.index
