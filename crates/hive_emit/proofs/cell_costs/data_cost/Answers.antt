use Rattle.std.proofs.Common.{sym, arith}
use Rattle.hive_emit.specs.CellCosts.{apart_cost}
use Rattle.hive_emit.proofs.Sums.{in_record, apart}
use Rattle.hive_emit.proofs.cell_costs.data_cost.Goals as goal

pub returns-then-len-le-IN_RECORD_BYTES : goal.returns-then-len-le-IN_RECORD_BYTES
returns-then-len-le-IN_RECORD_BYTES c = sym (in_record c.args.len c.if-len-le-IN_RECORD_BYTES.true)

pub returns-else-len-le-IN_RECORD_BYTES : goal.returns-else-len-le-IN_RECORD_BYTES
unfolding apart_cost
returns-else-len-le-IN_RECORD_BYTES c = omega (arith, c.cell_cost.ensures, apart c.args.len c.if-len-le-IN_RECORD_BYTES.false)
