use Rattle.std.proofs.Common.{◌≡◌}
use Rattle.ktm_calls.proofs.locked.catch_up.Given as goal

abbrev pub invariant-loop : goal.invariant-loop
invariant-loop g l = l.mine ≡ l.fn.mine
