use Rattle.std.proofs.Common.{◌≡◌, take}
use Rattle.hive_emit.specs.KeyCosts.{securities_cost}
use Rattle.hive_emit.proofs.security.SecurityTable.cost.Given as goal

abbrev pub invariant-loop-security : goal.invariant-loop-security
invariant-loop-security l = l.sum ≡ securities_cost (take l.security-index l.self)
