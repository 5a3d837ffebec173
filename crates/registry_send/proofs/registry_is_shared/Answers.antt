use denote.Exit.{no}
use denote.Param.{param}
use denote.Param.Send.{param_sync, arg_sync}
use Rattle.registry_send.proofs.RegistryCrossing.{registry_sync}
use Rattle.registry_send.proofs.registry_is_shared.Goals as goal

pub shares-requires-sync-T : goal.shares-requires-sync-T
shares-requires-sync-T g c κs within =
    param_sync 0 _ (arg_sync _ no _ (registry_sync (param 0 g.row.E) (param 0 g.row.O) g.E.StoreEngine g.O.Start g.O.Origin g.O.Ledger c.type_bounds.send-E))
