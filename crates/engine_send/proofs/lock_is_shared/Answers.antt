use denote.Exit.{no}
use denote.Param.{param}
use denote.Param.Send.{param_send, param_sync, arg_send, arg_sync}
use Rattle.engine_send.proofs.EngineCrossing.{lock_send, lock_sync}
use Rattle.engine_send.proofs.lock_is_shared.Goals as goal

pub sends-requires-send-T : goal.sends-requires-send-T
sends-requires-send-T g c κs within = param_send 0 _ (arg_send _ no _ (lock_send (param 0 g.row.D) g.D.Disk c.type_bounds.send-D))

pub shares-requires-sync-T : goal.shares-requires-sync-T
shares-requires-sync-T g c κs within = param_sync 0 _ (arg_sync _ no _ (lock_sync (param 0 g.row.D) g.D.Disk c.type_bounds.send-D))
