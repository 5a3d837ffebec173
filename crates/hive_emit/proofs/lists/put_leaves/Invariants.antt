use Rattle.std.proofs.Common.{◌≡◌, ◌+◌, ◌*◌, length, take, min}
use Rattle.reg_tree_parts.specs.Nodes.{subkeys_of}
use Rattle.hive_emit.specs.CellWrites.{Makes, Uses}
use Rattle.hive_emit.specs.KeyLists.{placed, ListedLeaves}
use Rattle.hive_emit.proofs.lists.put_leaves.Given as goal

abbrev pub invariant-loop-index : goal.invariant-loop-index
invariant-loop-index l = record {
  made : Makes l.fn.image.bytes l.image.bytes (ListedLeaves l.plain l.leaves.items (placed (take (500 * l.index) l.cell_offsets) (subkeys_of l.node)));
  uses : Uses l.fn.image.bytes l.image.bytes (8 * min (500 * l.index) (length l.cell_offsets) + 8 * l.index);
  count : length l.leaves.items ≡ l.index;
}
