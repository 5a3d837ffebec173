use Rattle.std.proofs.Common.{length, ap, arith}
use Rattle.hive_records.specs.NameEncodings.{name_bytes}
use Rattle.hive_emit.specs.CellCosts.{data_cost, value_cost}
use Rattle.hive_emit.proofs.Sums.{data_few}
use Rattle.hive_emit.proofs.cell_costs.value_cost.Goals as goal

pub overflow_add-result : goal.overflow_add-result
overflow_add-result c = omega (arith, c.cell_cost.ensures, c.data_cost.ensures, data_few (length c.bytes.result.now), ap length c.bytes.ensures, c.requires.few)

pub returns : goal.returns
unfolding value_cost
returns c = omega (arith, c.cell_cost.ensures, c.data_cost.ensures, c.stored_len-name.ensures, ap (λ n. length (name_bytes n)) c.units.ensures, ap (λ xs. data_cost (length xs)) c.bytes.ensures)
