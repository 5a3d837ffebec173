use Rattle.std.proofs.Common.{◌≡◌, ◌++◌, take}
use Rattle.std.specs.List.{flat_map, AllByRecursion}
use Rattle.change_codec.specs.Encoding.{op_bytes, HasEncoding}
use Rattle.change_codec.proofs.encoder.write_ops.Given as goal

abbrev pub invariant-loop-op : goal.invariant-loop-op
invariant-loop-op l = record {
  encoding : l.bytes.items ≡ l.fn.bytes.items ++ flat_map op_bytes (take l.op-index l.ops);
  has : AllByRecursion HasEncoding (take l.op-index l.ops);
}
