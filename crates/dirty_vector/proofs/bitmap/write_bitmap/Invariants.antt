use Rattle.dirty_vector.proofs.Bytes.{WrittenTo}
use Rattle.dirty_vector.proofs.bitmap.write_bitmap.Given as goal

abbrev pub invariant-loop-index : goal.invariant-loop-index
invariant-loop-index l = WrittenTo l.words l.bitmap l.index
