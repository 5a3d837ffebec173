-- The loop ends at the number of words, so the XOR is the XOR of all of them.
use Rattle.std.proofs.Common.{◌≡◌, ap, ◌∙◌, arith}
use Rattle.base_block.specs.Sums.{xor_of_words, stored_sum, sum_of}
use Rattle.base_block.proofs.sums.sum_of_prefix.Goals as goal

pub returns : goal.returns
unfolding sum_of
returns c =
    let at_end : c.loop-i.i ≡ 127 = omega arith in
    c.stored.ensures ∙ ap stored_sum (c.loop-i.invariant ∙ ap (λ n. xor_of_words n c.args.bytes.now) at_end)
