-- The readers and the writer of a published value may cross threads if the value may, and several may see it at once.
-- The value is any type here: a search would look into a type that it knows, down to its last field.
use denote.RattleType.{RattleType}
use denote.Param.Send.{IsSend, IsSync, sendable}
use Rattle.std.proofs.Crossing as std
use Rattle.std.specs.contracts.alloc.Global as Heap
use Rattle.std.specs.contracts.impls.GlobalAllocator.TheImpl.{ghosts}
use Rattle.atomic_table.proofs.send_lease.SendLease.TheSendSync as lease
use Rattle.atomic_table.proofs.shared.Seat.TheSendSync as seat
use Rattle.atomic_table.proofs.shared.Shared.TheSendSync as shared
use Rattle.atomic_table.specs.contracts.owned.Table as Table
use Rattle.atomic_table.specs.declared.shared.TableRule as TableRule
use Rattle.crossbeam_utils.specs.declared.rule.Protocol as Protocol
use Rattle.left_right.proofs.part.Deed.TheSendSync as deed
use Rattle.left_right.proofs.part.Part.TheSendSync as part
use Rattle.left_right.specs.contracts.reader.Reader as Reader
use Rattle.left_right.specs.contracts.writer.Writer as Writer
use Rattle.left_right.specs.declared.Absorb as Absorb

module _ (S V K P : RattleType) (p : TableRule.Ghosts P.Denot S.Denot V.Denot K.Denot) where
  table_send : IsSend S → IsSend (Table.the_row S V K P Heap.the_row p ghosts)
  table_send s = search (shared.the_send, lease.the_send, std.send, std.frees, std.crosses, sendable) depth 60

  table_sync : IsSend S → IsSync (Table.the_row S V K P Heap.the_row p ghosts)
  table_sync s = search (shared.the_sync, lease.the_sync, std.sync, std.frees, std.crosses, sendable) depth 60

module _ (T V P : RattleType) (p : Protocol.Ghosts P.Denot T.Denot V.Denot) where
  pub reader_send : IsSend T → IsSync T → IsSend (Reader.the_row T V P Heap.the_row p ghosts)
  reader_send s y = search (seat.the_send, table_send, table_sync, part.the_send, std.crosses, sendable) depth 60

-- T is the value, W what the writer appends
module _ (T W V P N : RattleType) (a : Absorb.Ghosts T.Denot W.Denot N.Denot) (p : Protocol.Ghosts P.Denot T.Denot V.Denot) where
  pub writer_send : IsSend T → IsSync T → IsSend W → IsSend (Writer.the_row T W V P Heap.the_row N a p ghosts)
  writer_send s y w = search (table_send, table_sync, seat.the_send, deed.the_send, part.the_send, std.send, std.frees, std.crosses, sendable) depth 60
