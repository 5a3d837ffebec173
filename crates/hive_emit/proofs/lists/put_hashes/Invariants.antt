use Rattle.std.proofs.Common.{◌≡◌, ◌++◌, take, drop, flat_map}
use Rattle.reg_tree_parts.specs.Nodes.{subkeys_of}
use Rattle.hive_records.specs.ListEncodings.{hashed}
use Rattle.hive_emit.specs.KeyLists.{placed}
use Rattle.hive_emit.proofs.lists.put_hashes.Given as goal

abbrev pub invariant-loop-index : goal.invariant-loop-index
invariant-loop-index l = l.encoding.items ≡ l.initial.encoding.items ++ flat_map hashed (take l.index (placed l.cell_offsets (drop l.from (subkeys_of l.node))))
