use denote.Param.{param}
use denote.Param.Send.{param_send}
use mir.Syntax.{named}
use Rattle.registry_send.proofs.RegistryCrossing.{registry_sync}
use Rattle.shared_store.proofs.Captured.{three_and_number_send}
use Rattle.shared_store.proofs.workers.fn.run_workers.scope.Goals as goal

pub spawn-requires-send-F : goal.spawn-requires-send-F
spawn-requires-send-F g c κs within =
    let r = registry_sync (param 0 g.row.E) (param 1 g.row.O) g.E.StoreEngine g.O.Start g.O.Origin g.O.Ledger c.requires.0 in
    let s = param_send 1 _ (three_and_number_send (named 0) _ _ _ κs.1.1.1.1.1.0 κs.1.1.1.1.1.1.0 κs.1.1.1.1.1.1.1.0 c.requires.1 c.requires.2 r) in
    record { owned = s.owned; leaving = s.leaving }
