use Rattle.std.proofs.Common.{◌≡◌, ◌+◌, ◌*◌, length, take, sum_by}
use Rattle.reg_tree_parts.specs.Nodes.{subkeys_of}
use Rattle.hive_records.specs.ListEncodings.{AreOffsets}
use Rattle.hive_emit.specs.CellWrites.{Makes, Uses}
use Rattle.hive_emit.specs.EmittedKeys.{PutsSubkeys}
use Rattle.hive_emit.specs.KeyCosts.{keys_cost}
use Rattle.hive_emit.proofs.keys.+puts.Given as goal

abbrev pub invariant-put_subkeys-loop-index : goal.invariant-put_subkeys-loop-index
invariant-put_subkeys-loop-index l = record {
  made : Makes l.fn.image.bytes l.image.bytes (PutsSubkeys l.securities l.parent l.cell_offsets.items (take l.index (subkeys_of l.node)));
  uses : Uses l.fn.image.bytes l.image.bytes (sum_by (λ k. keys_cost k.1) (take l.index (subkeys_of l.node)));
  count : length l.cell_offsets.items ≡ l.index;
  near : AreOffsets l.cell_offsets.items;
}

abbrev pub decreases-put_key : goal.decreases-put_key
decreases-put_key l = 2 * length l.node.now + 1

abbrev pub decreases-put_subkeys : goal.decreases-put_subkeys
decreases-put_subkeys l = 2 * length l.node.now
