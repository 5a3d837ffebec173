use Rattle.std.proofs.Common.{sym}
use Rattle.key_walk.proofs.Rows.{on_ok}
use Rattle.reg_export.proofs.Singles.{prints_ascii}
use Rattle.reg_export.proofs.encoding.write_ascii.Goals as goal

pub returns : goal.returns
returns g c = on_ok c.write_all.result (λ written. prints_ascii _ _ c.args.text.now (sym c.if-not-are_ascii.ensures) written) c.write_all.ensures.bytes
