use Rattle.std.proofs.Common.{◌≡◌, take, sum_by}
use Rattle.std.specs.FinMap as finite
use Rattle.hive_emit.specs.CellCosts.{value_cost}
use Rattle.hive_emit.proofs.cell_costs.values_cost.Given as goal

abbrev pub invariant-loop-index : goal.invariant-loop-index
invariant-loop-index l = l.sum ≡ sum_by value_cost (take l.index (finite.values l.values))
