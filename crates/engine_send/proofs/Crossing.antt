-- What may cross threads of an engine.
use denote.RattleType.{RattleType}
use denote.Param.Send.{IsSend, IsSync, sendable}
use Rattle.std.proofs.Crossing as std
use Rattle.std.proofs.MapsCrossing as maps
use Rattle.std.proofs.MapsCrossingOver as over
use Rattle.persistent_map.specs.contracts.map_node.MapNode as MapNode
use Rattle.persistent_map.specs.contracts.map.SharedMap as SharedMap
use Rattle.reg_tree.specs.contracts.trees.Trees as Trees
use Rattle.reg_tree_parts.specs.contracts.key.Key as Key
use Rattle.reg_tree_parts.specs.contracts.value.Value as Value
use Rattle.reg_tree_parts.specs.contracts.values.Values as Values
use Rattle.reg_tree_parts.specs.contracts.descriptor.Descriptor as Descriptor
use Rattle.reg_tree_parts.specs.contracts.rare_fields.RareFields as RareFields
use Rattle.store_model.specs.contracts.event.ReadResult as ReadResult
use Rattle.refusals.specs.contracts.refusal.Refusal as Refusal
use Rattle.reg_tree.specs.contracts.names.Names as Names
use Rattle.reg_tree_parts.specs.contracts.node.Node as Node
use Rattle.reg_tree_parts.proofs.node.Node.TheLaws.TheKnot as knot
use Rattle.reg_tree.specs.contracts.op.Op as Op
use Rattle.reg_names.specs.contracts.name.Name as Name
use Rattle.reg_names.specs.contracts.path.Path as Path
use Rattle.reg_names.specs.contracts.name.ValueName as ValueName
use Rattle.reg_tree_parts.specs.contracts.data.Data as Data
use Rattle.change_codec.specs.contracts.encoded_change.EncodedChange as EncodedChange
use Rattle.conflicts.specs.contracts.table.ClaimTable as ClaimTable
use Rattle.conflicts.specs.contracts.table.IndexedClaim as IndexedClaim
use Rattle.conflicts.specs.contracts.table.ClaimEntry as ClaimEntry
use Rattle.store_model.specs.contracts.event.Reply as Reply
use Rattle.commit_outcomes.specs.contracts.kept_commit.KeptCommit as KeptCommit
use Rattle.commit_outcomes.specs.contracts.commit_list.CommitList as CommitList
use Rattle.transactions.specs.contracts.view.View as View
use Rattle.transactions.specs.contracts.entry.TxEntry as TxEntry
use Rattle.transactions.specs.contracts.history.ChangeHistory as ChangeHistory
use Rattle.transactions.specs.contracts.table.TxTable as TxTable
use Rattle.transactions.specs.contracts.store.Store as Store
use Rattle.transactions.specs.contracts.prepared.ReadyWrite as ReadyWrite
use Rattle.transactions.specs.contracts.prepared.ReadyCommit as ReadyCommit
use Rattle.transactions.specs.contracts.prepared.Prepared as Prepared
use Rattle.reg_tree.specs.contracts.tree.Tree as Tree
use Rattle.dirty_vector.specs.contracts.vector.DirtyVector as DirtyVector
use Rattle.hive_cells.specs.contracts.free_bounds.FreeBounds as FreeBounds
use Rattle.hive_cells.specs.contracts.image.Image as Image
use Rattle.hive_savepoint.specs.contracts.log.UndoLog as UndoLog
use Rattle.hive_savepoint.specs.contracts.image.SavepointImage as SavepointImage
use Rattle.base_block.specs.contracts.block.BaseBlock as BaseBlock
use Rattle.hive_writer.specs.contracts.writer.HiveWriter as HiveWriter
use Rattle.hive_flush.specs.contracts.hive.HiveFile as HiveFile
use Rattle.commit_journal.specs.contracts.ghost_log.GhostLog as GhostLog
use Rattle.commit_journal.proofs.ghost_log.GhostLog.TheLaws.TheKnot as ghost_log
use Rattle.commit_journal.specs.contracts.extent.Extent as Extent
use Rattle.commit_journal.specs.contracts.last_changes.LastChangePerHive as LastChangePerHive
use Rattle.commit_journal.specs.contracts.journal.Journal as Journal
use Rattle.commit_journal.specs.contracts.journal.Phase as Phase
use Rattle.engine.specs.contracts.parts.Parts as Parts

pub name_send : IsSend Name.the_field.row
name_send = search (std.crosses, sendable) depth 40

pub name_sync : IsSync Name.the_field.row
name_sync = search (std.crosses, sendable) depth 40

module _ (P : RattleType) where
  pub group_send : IsSend P → IsSync P → IsSend (MapNode.the_row P)
  group_send s y = search (name_send, std.crosses, sendable) depth 40

  pub group_sync : IsSend P → IsSync P → IsSync (MapNode.the_row P)
  group_sync s y = search (name_sync, std.crosses, sendable) depth 40

module _ (E : RattleType) where
  pub map_send : IsSend E → IsSync E → IsSend (SharedMap.the_row E)
  map_send s y = search (group_send, group_sync, std.crosses, sendable) depth 40

  pub map_sync : IsSend E → IsSync E → IsSync (SharedMap.the_row E)
  map_sync s y = search (group_send, group_sync, std.crosses, sendable) depth 40

-- the same map as a field has it
module _ (E : RattleType) where
  pub map_field_send : IsSend E → IsSync E → IsSend (SharedMap.the_field E).row
  map_field_send s y = search (group_send, group_sync, std.crosses, sendable) depth 40

  pub map_field_sync : IsSend E → IsSync E → IsSync (SharedMap.the_field E).row
  map_field_sync s y = search (group_send, group_sync, std.crosses, sendable) depth 40

pub data_send : IsSend Data.the_field.row
data_send = search (std.crosses, sendable) depth 40

pub data_sync : IsSync Data.the_field.row
data_sync = search (std.crosses, sendable) depth 40

pub value_send : IsSend Value.the_field.row
value_send = search (name_send, data_send, std.crosses, sendable) depth 40

pub value_sync : IsSync Value.the_field.row
value_sync = search (name_sync, data_sync, std.crosses, sendable) depth 40

pub values_send : IsSend Values.the_field.row
values_send = search (value_send, value_sync, map_field_send, std.crosses, sendable) depth 40

pub values_sync : IsSync Values.the_field.row
values_sync = search (value_send, value_sync, map_field_sync, std.crosses, sendable) depth 40

pub descriptor_send : IsSend Descriptor.the_field.row
descriptor_send = search (data_send, data_sync, std.crosses, sendable) depth 40

pub descriptor_sync : IsSync Descriptor.the_field.row
descriptor_sync = search (data_send, data_sync, std.crosses, sendable) depth 40

pub uncommon_send : IsSend RareFields.the_field.row
uncommon_send = search (data_send, sendable) depth 40

pub uncommon_sync : IsSync RareFields.the_field.row
uncommon_sync = search (data_sync, sendable) depth 40

pub key_send : IsSend Key.the_field.row
key_send = search (name_send, values_send, descriptor_send, uncommon_send, uncommon_sync, std.crosses, sendable) depth 40

pub key_sync : IsSync Key.the_field.row
key_sync = search (name_sync, values_sync, descriptor_sync, uncommon_send, uncommon_sync, std.crosses, sendable) depth 40

pub node_send : IsSend Node.the_row
node_send = knot.both_send-Node (search sendable) key_send map_send (search sendable) key_sync map_sync

pub node_sync : IsSync Node.the_row
node_sync = knot.both_sync-Node (search sendable) key_send map_send (search sendable) key_sync map_sync

pub trees_send : IsSend Trees.the_row
trees_send = search (node_send, node_sync, std.crosses, sendable) depth 40

pub trees_sync : IsSync Trees.the_row
trees_sync = search (node_send, node_sync, std.crosses, sendable) depth 40

pub encoded_change_send : IsSend EncodedChange.the_row
encoded_change_send = search (std.crosses, sendable) depth 40

pub path_send : IsSend Path.the_field.row
path_send = search (name_send, name_sync, std.crosses, sendable) depth 40

pub value_name_send : IsSend ValueName.the_field.row
value_name_send = search (name_send, sendable) depth 40

pub op_send : IsSend Op.the_field.row
op_send = search (path_send, value_name_send, data_send, std.crosses, sendable) depth 40

pub claim_entry_send : IsSend ClaimEntry.the_row
claim_entry_send = search (path_send, std.crosses, sendable) depth 40

pub kept_send : IsSend IndexedClaim.the_field.row
kept_send = search (claim_entry_send, std.crosses, sendable) depth 40

pub claims_send : IsSend ClaimTable.the_row
claims_send = search (kept_send, over.crosses, maps.crosses, std.crosses, sendable) depth 40

pub view_send : IsSend View.the_field.row
view_send = search (trees_send, sendable) depth 40

pub entry_send : IsSend TxEntry.the_field.row
entry_send = search (view_send, op_send, std.crosses, sendable) depth 40

pub history_send : IsSend ChangeHistory.the_row
history_send = search (encoded_change_send, std.crosses, sendable) depth 40

pub table_send : IsSend TxTable.the_row
table_send = search (trees_send, entry_send, claims_send, std.crosses, sendable) depth 40

pub kept_commit_send : IsSend KeptCommit.the_field.row
kept_commit_send = search (std.crosses, sendable) depth 40

pub commit_list_send : IsSend CommitList.the_field.row
commit_list_send = search (kept_commit_send, std.crosses, sendable) depth 40

pub store_send : IsSend Store.the_row
store_send = search (table_send, history_send, commit_list_send, std.crosses, sendable) depth 40

pub refusal_send : IsSend Refusal.the_field.row
refusal_send = search sendable depth 40 fits 8000

pub names_send : IsSend Names.the_field.row
names_send = search (name_send, std.crosses, sendable) depth 40

pub found_send : IsSend ReadResult.the_field.row
found_send = search (name_send, names_send, value_send, sendable) depth 40

pub reply_send : IsSend Reply.the_field.row
reply_send = search (found_send, refusal_send, sendable) depth 60 fits 8000

pub ready_write_send : IsSend ReadyWrite.the_field.row
ready_write_send = search (encoded_change_send, trees_send, view_send, std.crosses, sendable) depth 40

pub ready_commit_send : IsSend ReadyCommit.the_field.row
ready_commit_send = search (encoded_change_send, trees_send, view_send, std.crosses, sendable) depth 40

pub prepared_send : IsSend Prepared.the_field.row
prepared_send = search (reply_send, ready_write_send, ready_commit_send, std.crosses, sendable) depth 40

pub tree_send : IsSend Tree.the_field.row
tree_send = search (node_send, node_sync, std.crosses, sendable) depth 40

pub vector_send : IsSend DirtyVector.the_row
vector_send = search (std.crosses, sendable) depth 40

pub block_send : IsSend BaseBlock.the_field.row
block_send = search (std.crosses, sendable) depth 40 fits 8000

pub writer_send : IsSend HiveWriter.the_field.row
writer_send = search (block_send, std.crosses, sendable) depth 40

pub bounds_send : IsSend FreeBounds.the_row
bounds_send = search (std.crosses, sendable) depth 40

pub image_send : IsSend Image.the_row
image_send = search (bounds_send, std.crosses, sendable) depth 40

pub log_send : IsSend UndoLog.the_row
log_send = search (std.crosses, sendable) depth 40

pub savepoint_send : IsSend SavepointImage.the_row
savepoint_send = search (image_send, log_send, std.crosses, sendable) depth 40

pub hive_send : IsSend HiveFile.the_field.row
hive_send = search (tree_send, vector_send, savepoint_send, writer_send, std.crosses, sendable) depth 40

pub told_send : IsSend GhostLog.the_row
told_send = search (ghost_log.crosses, std.crosses, sendable) depth 40

pub standing_send : IsSend Extent.the_field.row
standing_send = search (std.crosses, sendable) depth 40

pub phase_send : IsSend Phase.the_field.row
phase_send = search (standing_send, std.crosses, sendable) depth 40

pub naming_send : IsSend LastChangePerHive.the_field.row
naming_send = search (std.crosses, sendable) depth 40

pub journal_send : IsSend Journal.the_field.row
journal_send = search (standing_send, phase_send, std.crosses, sendable) depth 40 fits 4000

module _ (D : RattleType) where
  pub parts_send : IsSend D → IsSend (Parts.the_field D).row
  parts_send s = search (journal_send, hive_send, store_send, encoded_change_send, naming_send, std.crosses, sendable) depth 40
