use Rattle.std.specs.Prelude.{◌≤◌}
use Rattle.client_desks.proofs.desks.Desks.clients.Given as goal

-- each desk was counted once at most
abbrev pub invariant-loop-index : goal.invariant-loop-index
invariant-loop-index g l = l.clients ≤ l.index
