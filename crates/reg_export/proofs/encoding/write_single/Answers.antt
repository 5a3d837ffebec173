use Rattle.reg_export.proofs.Singles.{found_single}
use Rattle.reg_export.proofs.encoding.write_single.Goals as goal

pub returns : goal.returns
returns g c = found_single c.write_found.result c.from_u32.result _ c.args.unit c.from.result _ _ c.from.ensures c.from_u32.ensures.value c.from_u32.ensures.cases c.write_found.ensures
