-- The block that a `Held` owns says the same to every thread.
use denote.Param.Send.{IsSend}
use Rattle.regtx_c.specs.contracts.handle.Held.{the_row}
use Rattle.regtx_c.proofs.Crossing.{held_keyless}

pub send : IsSend the_row
send = record { owned = λ h vs. ((λ vss. (tt, (tt, tt))), held_keyless h.at h.blocks); leaving = λ k d w. tt }
