-- Several threads may see a registry if its engine may cross threads; sessions may cross them.
use denote.RattleType.{RattleType}
use denote.Param.Send.{IsSend, IsSync, sendable}
use Rattle.std.proofs.Crossing as std
use Rattle.logbook.proofs.tokens.Seen.TheSendSync as token
use Rattle.logbook.proofs.word.Word.TheSendSync as word
use Rattle.histories.specs.contracts.book.EventCount as EventCount
use Rattle.histories.specs.contracts.book.SeenEvents as SeenEvents
use Rattle.histories.specs.declared.start.Start as Start
use Rattle.std.specs.declared.sync.ledger.Ledger as Ledger
use Rattle.std.proofs.sync.ledger.Book.TheSendSync as book
use Rattle.std.proofs.sync.ledger.Share.TheSendSync as share
use Rattle.published_trees.specs.contracts.change_list.ChangeCount as ChangeCount
use Rattle.published_trees.specs.contracts.publication.Publication as Publication
use Rattle.published_trees.specs.declared.origin.Origin as Origin
use Rattle.ktm_calls.specs.contracts.asker.Asker as Asker
use Rattle.ktm_calls.specs.contracts.locked.Locked as Locked
use Rattle.ktm_calls.specs.contracts.receipt.Receipt as Receipt
use Rattle.ktm_calls.specs.contracts.registry.Registry as Registry
use Rattle.ktm_calls.specs.contracts.session.Session as Session
use Rattle.ktm_calls.specs.contracts.sight.Sight as Sight
use Rattle.store_engine.specs.declared.interface.StoreEngine as StoreEngine
use Rattle.registry_send.proofs.Crossing.{seen_send, seen_sync, snapshot_send, snapshot_sync}
use Rattle.registry_send.proofs.ReadersCrossing.{reader_send, writer_send}

count_send : IsSend ChangeCount.the_field.row
count_send = search (word.the_send, std.crosses, sendable) depth 40

pub events_send : IsSend SeenEvents.the_field.row
events_send = search (token.the_send, std.crosses, sendable) depth 40

events_sync : IsSync SeenEvents.the_field.row
events_sync = search (token.the_sync, std.crosses, sendable) depth 40

history_send : IsSend EventCount.the_field.row
history_send = search (word.the_send, events_send, std.crosses, sendable) depth 40

publication_send : (O : RattleType) (o : Origin.Ghosts O.Denot) → IsSend (Publication.the_row O o)
publication_send O o = search (writer_send, seen_send, count_send, snapshot_send, snapshot_sync, std.crosses, sendable) depth 60

module _ (O : RattleType) (o : Start.Ghosts O.Denot) (from : Origin.Ghosts O.Denot) (ledger : Ledger.Ghosts O.Denot) where
  pub sight_send : IsSend O → IsSend (Sight.the_field O o from ledger).row
  sight_send s = search (seen_send, events_send, std.crosses, sendable) depth 60

  sight_sync : IsSync O → IsSync (Sight.the_field O o from ledger).row
  sight_sync s = search (seen_sync, events_sync, std.crosses, sendable) depth 60

  pub receipt_send : IsSend O → IsSend (Receipt.the_row O o from ledger)
  receipt_send s = search (sight_send, std.crosses, sendable) depth 60

  pub receipt_sync : IsSync O → IsSync (Receipt.the_row O o from ledger)
  receipt_sync s = search (sight_sync, std.crosses, sendable) depth 60

  pub asker_send : IsSend O → IsSend (Asker.the_row O o from ledger)
  asker_send s = search (sight_send, share.the_send, std.crosses, sendable) depth 80

  pub session_send : IsSend O → IsSend (Session.the_row O o from ledger)
  session_send s = search (reader_send, sight_send, share.the_send, snapshot_send, snapshot_sync, std.crosses, sendable) depth 80

module _ (E O : RattleType) (e : StoreEngine.Ghosts E.Denot) (o : Start.Ghosts O.Denot) (from : Origin.Ghosts O.Denot) (ledger : Ledger.Ghosts O.Denot) where
  pub locked_send : IsSend E → IsSend (Locked.the_row E O e o from ledger)
  locked_send s = search (publication_send, history_send, book.the_send, reader_send, snapshot_send, snapshot_sync, std.crosses, sendable) depth 60

  pub registry_sync : IsSend E → IsSync (Registry.the_row E O e o from ledger)
  registry_sync s = let l = locked_send s in search (l, std.crosses, sendable) depth 60
