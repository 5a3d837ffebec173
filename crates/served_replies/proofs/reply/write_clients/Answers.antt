use Rattle.std.proofs.Common.{refl}
use Rattle.reply_lines.proofs.Written.{appends_both}
use Rattle.std.proofs.lemmas.Result.{on_ok_weaker}
use Rattle.served_replies.proofs.reply.write_clients.Goals as goal

pub returns : goal.returns
returns g c = on_ok_weaker c.writeln.result (λ end. appends_both _ _ _ _ _ _ c.in_ok-write.ensures.bytes end refl) c.writeln.ensures.bytes
