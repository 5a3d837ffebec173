use denote.Exit.{no}
use denote.Param.{param}
use denote.Param.Send.{param_send, arg_send}
use Rattle.engine_send.proofs.EngineCrossing.{engine_send}
use Rattle.engine_send.proofs.engine_is_sent.Goals as goal

pub sends-requires-send-T : goal.sends-requires-send-T
sends-requires-send-T g c κs within = param_send 0 _ (arg_send _ no _ (engine_send (param 0 g.row.D) g.D.Disk c.type_bounds.send-D))
