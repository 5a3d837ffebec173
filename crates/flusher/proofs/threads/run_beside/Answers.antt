use denote.Param.{param}
use denote.Param.Send.{IsSync, param_send}
use mir.Syntax.{named}
use Rattle.registry_send.proofs.RegistryCrossing.{registry_sync}
use Rattle.flusher.proofs.Captured.{three_send}
use Rattle.flusher.proofs.threads.run_beside.Goals as goal

pub join-flushed-requires-send-F : goal.join-flushed-requires-send-F
join-flushed-requires-send-F g c κs within =
    let r = registry_sync (param 0 g.row.E) (param 1 g.row.O) g.E.StoreEngine g.O.Start g.O.Origin g.O.Ledger c.type_bounds.send-E in
    let G : IsSync (param 2 g.row.G) = c.type_bounds.sync-G in
    let R : IsSync (param 3 g.row.R) = c.type_bounds.sync-R in
    let s = param_send 1 _ (three_send (named 0) _ _ _ κs.1.1.1.1.1.1.0 κs.1.1.1.1.1.1.1.0 κs.1.1.1.1.1.1.1.1.0 R r G) in
    record { owned = s.owned; leaving = s.leaving }
