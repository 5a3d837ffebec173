use Rattle.std.proofs.Common.{◌≢◌, ◌<◌, ℕ, []}
use Rattle.hive_walk.specs.declared.siblings.Sibling.{Sibling}
use Rattle.hive_walk.proofs.Order.{name_at}
use Rattle.hive_walk.proofs.siblings.has_nameless.Given as goal

abbrev pub invariant-loop-sibling : goal.invariant-loop-sibling
invariant-loop-sibling l = (k : ℕ) (d : Sibling) → k < l.sibling-index → name_at l.siblings k d ≢ []
