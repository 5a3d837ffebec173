use Rattle.std.proofs.Common.{arith, refl}
use Rattle.dirty_vector.proofs.Bytes.{read_byte, read_none, read_all}
use Rattle.dirty_vector.proofs.bitmap.read_bitmap.Goals as goal

pub loop-index-init : goal.loop-index-init
loop-index-init c = read_none c.args.bitmap.now c.args.words.now c.requires.clean

pub loop-index-preserved : goal.loop-index-preserved
loop-index-preserved c =
    read_byte c.args.bitmap.now c.loop-index.words c.loop-index.index _ c.word_of.result (omega arith) refl (omega (arith, c.type_inv.bitmap c.loop-index.index)) c.word_of.ensures c.loop-index.invariant

pub returns : goal.returns
returns c = read_all c.args.bitmap.now c.loop-index.words c.loop-index.index (omega arith) c.loop-index.invariant
