use denote.Param.Send.{sendable}
use Rattle.std.proofs.Crossing as std
use Rattle.engine_send.proofs.Crossing.{trees_send, trees_sync}
use Rattle.engine_send.proofs.trees_are_shared.Goals as goal

pub sends-requires-send-T : goal.sends-requires-send-T
sends-requires-send-T c κs = search (trees_send, trees_sync, std.crosses, sendable) depth 40

pub shares-requires-sync-T : goal.shares-requires-sync-T
shares-requires-sync-T c κs = search (trees_send, trees_sync, std.crosses, sendable) depth 40
