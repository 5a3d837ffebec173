use Rattle.std.proofs.Common.{◌≡◌, length, take, sum_by}
use Rattle.std.specs.FinMap as finite
use Rattle.hive_emit.specs.CellWrites.{Makes, Uses}
use Rattle.hive_emit.specs.Values.{ListedValues}
use Rattle.hive_emit.specs.CellCosts.{value_cost}
use Rattle.hive_emit.proofs.values.put_each.Given as goal

abbrev pub invariant-loop-index : goal.invariant-loop-index
invariant-loop-index l = record {
  made : Makes l.fn.image.bytes l.image.bytes (ListedValues l.cell_offsets.items (take l.index (finite.values l.values)));
  uses : Uses l.fn.image.bytes l.image.bytes (sum_by value_cost (take l.index (finite.values l.values)));
  count : length l.cell_offsets.items ≡ l.index;
}
