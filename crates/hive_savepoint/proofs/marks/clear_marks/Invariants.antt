use Rattle.std.proofs.Common.{◌≡◌, length}
use Rattle.hive_savepoint.proofs.MarkedPages.{AreAhead}
use Rattle.hive_savepoint.proofs.marks.clear_marks.Given as goal

abbrev pub invariant-loop-index : goal.invariant-loop-index
invariant-loop-index l = (length l.words ≡ length l.fn.words) × AreAhead l.words l.pages l.index
