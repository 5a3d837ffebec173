use Rattle.reg_export.proofs.Singles.{found_joined}
use Rattle.reg_export.proofs.encoding.write_joined.Goals as goal

pub returns : goal.returns
returns g c = found_joined c.write_found.result c.pair_char.result c.args.high c.args.low _ _ c.requires c.pair_char.ensures c.write_found.ensures
