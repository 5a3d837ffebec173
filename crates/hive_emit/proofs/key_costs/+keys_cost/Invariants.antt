use Rattle.std.proofs.Common.{◌≡◌, ◌+◌, ◌*◌, [], take, length, sum_by, Some}
use Rattle.reg_tree_parts.specs.Rows.{Row}
use Rattle.reg_tree_parts.specs.Nodes.{row_at, subkeys_of}
use Rattle.hive_emit.specs.KeyCosts.{row_cost, keys_cost}
use Rattle.hive_emit.proofs.key_costs.+keys_cost.Given as goal

abbrev pub invariant-loop-index : goal.invariant-loop-index
invariant-loop-index l = (row : Row) → row_at l.node [] ≡ Some row → l.sum ≡ row_cost row + 16 * l.index + sum_by (λ k. keys_cost k.1) (take l.index (subkeys_of l.node))

abbrev pub decreases-keys_cost : goal.decreases-keys_cost
decreases-keys_cost l = length l.node.now
