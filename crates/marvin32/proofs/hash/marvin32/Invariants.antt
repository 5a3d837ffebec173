use Rattle.std.proofs.Common.{◌≡◌}
use Rattle.marvin32.specs.Marvin32.{state_after_words}
use Rattle.marvin32.proofs.hash.marvin32.Given as goal

-- the state is that after the words so far
abbrev pub invariant-loop-i : goal.invariant-loop-i
invariant-loop-i l = l.state ≡ state_after_words l.fn.seed l.i l.bytes
