-- What may cross threads of a registry.
use denote.Param.Send.{IsSend, IsSync, sendable}
use Rattle.std.proofs.Crossing as std
use Rattle.logbook.proofs.tokens.Seen.TheSendSync as token
use Rattle.engine_send.proofs.Crossing.{trees_send, trees_sync}
use Rattle.published_trees.specs.contracts.change_list.SeenChanges as SeenChanges
use Rattle.published_trees.specs.contracts.snapshot.TreesSnapshot as TreesSnapshot

pub seen_send : IsSend SeenChanges.the_field.row
seen_send = search (token.the_send, std.crosses, sendable) depth 40

pub seen_sync : IsSync SeenChanges.the_field.row
seen_sync = search (token.the_sync, std.crosses, sendable) depth 40

pub snapshot_send : IsSend TreesSnapshot.the_row
snapshot_send = search (seen_send, trees_send, trees_sync, std.crosses, sendable) depth 40

pub snapshot_sync : IsSync TreesSnapshot.the_row
snapshot_sync = search (seen_sync, trees_send, trees_sync, std.crosses, sendable) depth 40
