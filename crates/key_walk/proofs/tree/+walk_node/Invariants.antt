use Rattle.std.proofs.Common.{length, take}
use Rattle.std.specs.List.{flat_map}
use Rattle.reg_tree_parts.specs.Nodes.{subkeys_of}
use Rattle.key_walk.specs.KeyPaths.{names_on}
use Rattle.key_walk.specs.KeyRows.{subkey_rows}
use Rattle.key_walk.proofs.tree.+walk_node.Given as goal

-- after the key itself the keys of the subkeys so far were taken
abbrev pub invariant-loop-index : goal.invariant-loop-index
invariant-loop-index g l = g.S.KeySink.Took l.initial.sink l.sink (flat_map (subkey_rows (names_on l.path)) (take l.index (subkeys_of l.node)))

abbrev pub decreases-walk_node : goal.decreases-walk_node
decreases-walk_node g l = length l.node.now
