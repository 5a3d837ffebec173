use Rattle.std.proofs.Common.{◌<◌, ◌^◌, get_or, arith}
use Rattle.dirty_vector.proofs.Words.{count_word}
use Rattle.dirty_vector.proofs.marks.skip_words.Goals as goal

pub loop-place-preserved : goal.loop-place-preserved
loop-place-preserved c =
    let fits : get_or c.args.words.now c.loop-place.place 0 < 2 ^ 64 = omega (arith, c.type_inv.words c.loop-place.place) in
    omega (arith, count_word c.args.words.now c.loop-place.place fits, c.loop-place.invariant, c.if-left-ones.false)
