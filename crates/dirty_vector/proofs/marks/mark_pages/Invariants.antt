use Rattle.dirty_vector.proofs.Words.{MarkedTo}
use Rattle.dirty_vector.proofs.marks.mark_pages.Given as goal

abbrev pub invariant-loop-index : goal.invariant-loop-index
invariant-loop-index l = MarkedTo l.fn.words l.words l.first l.last l.index
