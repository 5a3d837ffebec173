use Rattle.std.proofs.Common.{arith}
use Rattle.dirty_vector.proofs.Bytes.{write_byte, written_all}
use Rattle.dirty_vector.proofs.bitmap.write_bitmap.Goals as goal

pub loop-index-preserved : goal.loop-index-preserved
loop-index-preserved c = write_byte c.args.words.now c.loop-index.bitmap c.loop-index.index c.byte_of.result (omega arith) c.byte_of.ensures c.loop-index.invariant

pub returns : goal.returns
returns c = written_all c.args.words.now c.args.bitmap.now c.loop-index.bitmap c.loop-index.index c.loop-index.auto.bitmap (omega arith) c.loop-index.invariant
