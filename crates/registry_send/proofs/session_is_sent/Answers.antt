use denote.Exit.{no}
use denote.Param.{param}
use denote.Param.Send.{param_send, arg_send}
use Rattle.registry_send.proofs.RegistryCrossing.{session_send}
use Rattle.registry_send.proofs.session_is_sent.Goals as goal

pub sends-requires-send-T : goal.sends-requires-send-T
sends-requires-send-T g c κs within = param_send 0 _ (arg_send _ no _ (session_send (param 0 g.row.O) g.O.Start g.O.Origin g.O.Ledger c.type_bounds.send-O))
