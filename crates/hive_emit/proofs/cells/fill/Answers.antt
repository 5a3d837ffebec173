use Rattle.hive_emit.proofs.NewCells.{filled}
use Rattle.hive_emit.proofs.cells.fill.Goals as goal

pub returns : goal.returns
returns c = filled c.args.image.now.bytes c.write.new.self.bytes c.args.at c.args.encoding.now c.requires c.in-Ok.ensures.written.0 c.in-Ok.ensures.written.1
