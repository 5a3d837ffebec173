use Rattle.std.proofs.Common.{[], refl}
use Rattle.reg_export.specs.SinkLaws.{prints_nothing}
use Rattle.reg_export.proofs.reg_data.make_room.Goals as goal

pub returns-else-len-clause-printed : goal.returns-else-len-clause-printed
returns-else-len-clause-printed g c = ([], prints_nothing c.args.encoding (g.W.Write.contents c.args.writer.now), refl)
