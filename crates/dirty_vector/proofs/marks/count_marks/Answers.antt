use Rattle.std.proofs.Common.{◌+◌, ◌<◌, ◌^◌, get_or, ℕ, ap, sym, ◌∙◌, arith}
use lib.Count.{ones, ones-le}
use Rattle.dirty_vector.proofs.Words.{count_word}
use Rattle.dirty_vector.proofs.marks.count_marks.Goals as goal

pub loop-word-preserved : goal.loop-word-preserved
loop-word-preserved c =
    let fits : get_or c.args.words.now c.loop-word.word-index 0 < 2 ^ 64 = omega (arith, c.type_inv.words c.loop-word.word-index) in
    let step = count_word c.args.words.now c.loop-word.word-index fits in
    let few = ones-le 64 _ fits in
    record { count = ap (λ (n : ℕ). n + ones (get_or c.args.words.now c.loop-word.word-index 0)) c.loop-word.invariant.count ∙ sym step; bound = omega (arith, few) }
