use Rattle.registry_send.proofs.Crossing.{snapshot_send, snapshot_sync}
use denote.Param.Send.{sendable}
use Rattle.registry_send.proofs.snapshot_is_shared.Goals as goal

pub sends-requires-send-T : goal.sends-requires-send-T
sends-requires-send-T c κs = search (snapshot_send, sendable) depth 40

pub shares-requires-sync-T : goal.shares-requires-sync-T
shares-requires-sync-T c κs = search (snapshot_sync, sendable) depth 40
