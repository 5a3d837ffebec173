-- What may cross threads of a tree, and of the block that a handle owns.
use Rattle.std.proofs.Common.{[], ◌∷◌}
use mir.Raw.{raw}
use base.Fraction.{full_share}
use base.Shift.{Keyless}
use denote.RattleType.{RattleType}
use denote.Memory.{lone}
use denote.RawPtr.{Ptr, block_ptr, null_ptr}
use denote.Param.Send.{IsSend, IsSync, sendable, part_keyless}
use Rattle.std.specs.Box.Ownership.{box_owns}
use Rattle.std.proofs.Crossing as std
use Rattle.persistent_map.specs.contracts.map_node.MapNode as MapNode
use Rattle.persistent_map.specs.contracts.map.SharedMap as SharedMap
use Rattle.reg_names.specs.contracts.name.Name as Name
use Rattle.reg_tree_parts.specs.contracts.data.Data as Data
use Rattle.reg_tree_parts.specs.contracts.descriptor.Descriptor as Descriptor
use Rattle.reg_tree_parts.specs.contracts.key.Key as Key
use Rattle.reg_tree_parts.specs.contracts.node.Node as Node
use Rattle.reg_tree_parts.specs.contracts.rare_fields.RareFields as RareFields
use Rattle.reg_tree_parts.specs.contracts.value.Value as Value
use Rattle.reg_tree_parts.specs.contracts.values.Values as Values
use Rattle.reg_tree_parts.proofs.node.Node.TheLaws.TheKnot as knot
use Rattle.reg_tree.specs.contracts.tree.Tree as Tree
use Rattle.regtx_c.specs.contracts.block.Block as Block
use Rattle.regtx_c.specs.contracts.block.Step as Step
use Rattle.regtx_c.specs.Held.{Maybe, freed, held}

name_send : IsSend Name.the_field.row
name_send = search (std.crosses, sendable) depth 40

name_sync : IsSync Name.the_field.row
name_sync = search (std.crosses, sendable) depth 40

module _ (P : RattleType) where
  group_send : IsSend P → IsSync P → IsSend (MapNode.the_row P)
  group_send s y = search (name_send, std.crosses, sendable) depth 40

  group_sync : IsSend P → IsSync P → IsSync (MapNode.the_row P)
  group_sync s y = search (name_sync, std.crosses, sendable) depth 40

module _ (E : RattleType) where
  map_send : IsSend E → IsSync E → IsSend (SharedMap.the_row E)
  map_send s y = search (group_send, group_sync, std.crosses, sendable) depth 40

  map_sync : IsSend E → IsSync E → IsSync (SharedMap.the_row E)
  map_sync s y = search (group_send, group_sync, std.crosses, sendable) depth 40

-- the same map as a field has it
module _ (E : RattleType) where
  map_field_send : IsSend E → IsSync E → IsSend (SharedMap.the_field E).row
  map_field_send s y = search (group_send, group_sync, std.crosses, sendable) depth 40

  map_field_sync : IsSend E → IsSync E → IsSync (SharedMap.the_field E).row
  map_field_sync s y = search (group_send, group_sync, std.crosses, sendable) depth 40

data_send : IsSend Data.the_field.row
data_send = search (std.crosses, sendable) depth 40

data_sync : IsSync Data.the_field.row
data_sync = search (std.crosses, sendable) depth 40

value_send : IsSend Value.the_field.row
value_send = search (name_send, data_send, std.crosses, sendable) depth 40

value_sync : IsSync Value.the_field.row
value_sync = search (name_sync, data_sync, std.crosses, sendable) depth 40

values_send : IsSend Values.the_field.row
values_send = search (value_send, value_sync, map_field_send, std.crosses, sendable) depth 40

values_sync : IsSync Values.the_field.row
values_sync = search (value_send, value_sync, map_field_sync, std.crosses, sendable) depth 40

descriptor_send : IsSend Descriptor.the_field.row
descriptor_send = search (data_send, data_sync, std.crosses, sendable) depth 40

descriptor_sync : IsSync Descriptor.the_field.row
descriptor_sync = search (data_send, data_sync, std.crosses, sendable) depth 40

rare_send : IsSend RareFields.the_field.row
rare_send = search (data_send, sendable) depth 40

rare_sync : IsSync RareFields.the_field.row
rare_sync = search (data_sync, sendable) depth 40

key_send : IsSend Key.the_field.row
key_send = search (name_send, values_send, descriptor_send, rare_send, rare_sync, std.crosses, sendable) depth 40

key_sync : IsSync Key.the_field.row
key_sync = search (name_sync, values_sync, descriptor_sync, rare_send, rare_sync, std.crosses, sendable) depth 40

node_send : IsSend Node.the_row
node_send = knot.both_send-Node (search sendable) key_send map_send (search sendable) key_sync map_sync

node_sync : IsSync Node.the_row
node_sync = knot.both_sync-Node (search sendable) key_send map_send (search sendable) key_sync map_sync

tree_send : IsSend Tree.the_field.row
tree_send = search (node_send, node_sync, std.crosses, sendable) depth 40

node_field_send : IsSend Node.the_field.row
node_field_send = node_send

step_send : IsSend Step.the_field.row
step_send = search (node_field_send, std.crosses, sendable) depth 40

block_send : IsSend Block.the_row
block_send = search (tree_send, step_send, std.crosses, sendable) depth 40

freed_keyless : (p : Ptr) → Keyless (freed (raw (lone (Block.the_row).mir)) p)
freed_keyless p = std.frees.frees (record { memory = record { seal = tt } }) (raw (lone (Block.the_row).mir)) p

boxed_keyless : (p : Ptr) (x : (Block.the_row).Denot) → Keyless (box_owns freed Block.the_row p x)
boxed_keyless null_ptr x = (tt, freed_keyless null_ptr)
boxed_keyless (block_ptr b o) x = (part_keyless Block.the_row block_send full_share x b o, freed_keyless (block_ptr b o))

pub held_keyless : (p : Ptr) (xs : Maybe) → Keyless (held p xs)
held_keyless p [] = tt
held_keyless p (x ∷ xs) = boxed_keyless p x
