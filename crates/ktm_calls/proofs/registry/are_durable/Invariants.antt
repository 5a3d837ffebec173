use Rattle.std.proofs.Common.{◌≡◌, ◌<◌, ◌≤◌, ℕ, Some, slice_get}
use Rattle.histories.specs.Histories.{end_of}
use Rattle.ktm_calls.specs.Moments.{NumberedSight}
use Rattle.ktm_calls.proofs.registry.are_durable.Given as goal

abbrev pub invariant-loop-i : goal.invariant-loop-i
invariant-loop-i g l = (j : ℕ) (r : NumberedSight) → j < l.i → slice_get l.fn.receipts.items j ≡ Some r →
    r.number ≤ (end_of g.O.Start.start l.fn.events.log).machine.durable
