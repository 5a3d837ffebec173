use Rattle.std.proofs.Common.{◌≡◌, ◌<◌, ◌+◌, ℕ, suc}
use Rattle.std.specs.declared.cmp.Ordering.TheVariants.{Less}
use Rattle.reg_tree_parts.specs.Orders.{name_order}
use Rattle.hive_walk.specs.declared.siblings.Sibling.{Sibling}
use Rattle.hive_walk.proofs.Order.{name_at}
use Rattle.hive_walk.proofs.siblings.rises.Given as goal

abbrev pub invariant-loop-index : goal.invariant-loop-index
invariant-loop-index l = (k : ℕ) (d : Sibling) → k + 1 < l.index → name_order (name_at l.siblings k d) (name_at l.siblings (suc k) d) ≡ Less
