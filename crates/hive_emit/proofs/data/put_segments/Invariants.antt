use Rattle.std.proofs.Common.{◌≡◌, ◌*◌, length, take}
use Rattle.hive_emit.specs.CellWrites.{Makes, Uses}
use Rattle.hive_emit.specs.Values.{InSegments}
use Rattle.hive_emit.proofs.Datas.{AllFull}
use Rattle.hive_emit.proofs.data.put_segments.Given as goal

abbrev pub invariant-loop-index : goal.invariant-loop-index
invariant-loop-index l = record {
  made : Makes l.fn.image.bytes l.image.bytes (InSegments AllFull l.cell_offsets.items (take (16_344 * l.index) l.content));
  uses : Uses l.fn.image.bytes l.image.bytes (16_352 * l.index);
  count : length l.cell_offsets.items ≡ l.index;
}
