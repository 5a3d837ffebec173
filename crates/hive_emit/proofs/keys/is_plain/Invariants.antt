use Rattle.std.proofs.Common.{◌≡◌, false, take}
use Rattle.reg_tree_parts.specs.Nodes.{subkeys_of}
use Rattle.hive_emit.specs.EmittedKeys.{any_past_ascii}
use Rattle.hive_emit.proofs.keys.is_plain.Given as goal

abbrev pub invariant-loop-index : goal.invariant-loop-index
invariant-loop-index l = any_past_ascii (take l.index (subkeys_of l.node)) ≡ false
