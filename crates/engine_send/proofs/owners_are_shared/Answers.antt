use denote.Exit.{no}
use denote.Param.{param}
use denote.Param.Send.{param_send, param_sync, arg_send, arg_sync}
use Rattle.std.proofs.Crossing.{Arc-send, Arc-sync}
use Rattle.std.specs.contracts.sync.Mutex as Mutex
use Rattle.engine.specs.contracts.engine.Engine as Engine
use Rattle.engine_send.proofs.EngineCrossing.{lock_send, lock_sync}
use Rattle.engine_send.proofs.owners_are_shared.Goals as goal

pub sends-requires-send-T : goal.sends-requires-send-T
sends-requires-send-T g c κs within =
    let D = param 0 g.row.D in
    let s = c.type_bounds.send-D in
    param_send 0 _ (arg_send _ no _ (Arc-send (Mutex.the_row (Engine.the_row D g.D.Disk)) (lock_send D g.D.Disk s) (lock_sync D g.D.Disk s)))

pub shares-requires-sync-T : goal.shares-requires-sync-T
shares-requires-sync-T g c κs within =
    let D = param 0 g.row.D in
    let s = c.type_bounds.send-D in
    param_sync 0 _ (arg_sync _ no _ (Arc-sync (Mutex.the_row (Engine.the_row D g.D.Disk)) (lock_send D g.D.Disk s) (lock_sync D g.D.Disk s)))
