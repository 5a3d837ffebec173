use Rattle.std.proofs.Common.{◌≡◌, ◌+◌, ℕ, List, length, ap, ◌∙◌, arith}
use Rattle.reg_tree_parts.specs.Rows.{Row, ValueMap}
use Rattle.hive_records.specs.NameEncodings.{name_bytes}
use Rattle.hive_emit.specs.CellWrites.{cell_cost}
use Rattle.hive_emit.specs.CellCosts.{values_cost}
use Rattle.hive_emit.specs.KeyCosts.{class_cost, row_cost}
use Rattle.hive_emit.proofs.KeySums.{row_parts}
use Rattle.hive_emit.proofs.key_costs.row_cost.Goals as goal

pub values_cost-requires-clause-fits : goal.values_cost-requires-clause-fits
values_cost-requires-clause-fits c = omega (arith, row_parts c.args.key.now, c.requires.fits, ap values_cost c.values.ensures)

-- the sum
whole : (row : Row) (units class : List ℕ) (values : ValueMap) (len head class_is values_is : ℕ) → units ≡ row.name → class ≡ row.class → values ≡ row.values → len ≡ 76 + length (name_bytes units) → head ≡ cell_cost len → class_is ≡ class_cost (length class) → values_is ≡ values_cost values → head + class_is + values_is ≡ row_cost row
whole row units class values len head class_is values_is u c v l r k w = omega (arith, row_parts row, ap (λ xs. length (name_bytes xs)) u, ap length c, ap values_cost v, l, r, k, w)

pub overflow_add-result-2 : goal.overflow_add-result-2
overflow_add-result-2 c = omega (arith, c.requires.fits, whole c.args.key.now c.units.result.now c.class.result.now c.values.result.now c.record_len.result c.cell_cost-record.result c.class_cost.result c.values_cost.result (c.units.ensures ∙ c.name.ensures) (c.class.ensures) c.values.ensures c.record_len.ensures c.cell_cost-record.ensures c.class_cost.ensures c.values_cost.ensures)

pub returns : goal.returns
returns c = whole c.args.key.now c.units.result.now c.class.result.now c.values.result.now c.record_len.result c.cell_cost-record.result c.class_cost.result c.values_cost.result (c.units.ensures ∙ c.name.ensures) (c.class.ensures) c.values.ensures c.record_len.ensures c.cell_cost-record.ensures c.class_cost.ensures c.values_cost.ensures
