use denote.Exit.{no}
use denote.Param.{param}
use denote.Param.Send.{param_send, param_sync, arg_send, arg_sync}
use Rattle.registry_send.proofs.RegistryCrossing.{receipt_send, receipt_sync}
use Rattle.registry_send.proofs.receipt_is_shared.Goals as goal

pub sends-requires-send-T : goal.sends-requires-send-T
sends-requires-send-T g c κs within = param_send 0 _ (arg_send _ no _ (receipt_send (param 0 g.row.O) g.O.Start g.O.Origin g.O.Ledger c.type_bounds.send-O))

pub shares-requires-sync-T : goal.shares-requires-sync-T
shares-requires-sync-T g c κs within = param_sync 0 _ (arg_sync _ no _ (receipt_sync (param 0 g.row.O) g.O.Start g.O.Origin g.O.Ledger c.type_bounds.sync-O))
