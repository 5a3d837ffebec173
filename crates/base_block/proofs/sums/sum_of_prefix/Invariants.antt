use Rattle.std.proofs.Common.{◌≡◌}
use Rattle.base_block.specs.Sums.{xor_of_words}
use Rattle.base_block.proofs.sums.sum_of_prefix.Given as goal

abbrev pub invariant-loop-i : goal.invariant-loop-i
invariant-loop-i l = l.xor ≡ xor_of_words l.i l.bytes
