use Rattle.dirty_vector.proofs.Bytes.{ReadTo}
use Rattle.dirty_vector.proofs.bitmap.read_bitmap.Given as goal

abbrev pub invariant-loop-index : goal.invariant-loop-index
invariant-loop-index l = ReadTo l.bitmap l.words l.index
