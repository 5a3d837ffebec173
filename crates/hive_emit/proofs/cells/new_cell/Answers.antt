use Rattle.std.proofs.Common.{arith}
use Rattle.hive_emit.proofs.NewCells.{opened, long_cell, landed, stopped}
use Rattle.hive_emit.proofs.cells.new_cell.Goals as goal

pub returns-in-Ok : goal.returns-in-Ok
returns-in-Ok c = (opened c.args.image.now.bytes c.alloc.new.self.bytes c.args.len c.in-Ok.at (omega arith) c.tiles.ensures.tiles c.in-Ok.ensures.allocated, long_cell c.args.image.now.bytes c.alloc.new.self.bytes c.args.len c.in-Ok.at c.in-Ok.ensures.allocated, landed c.args.image.now.bytes c.alloc.new.self.bytes c.args.len c.in-Ok.at c.in-Ok.ensures.allocated)

pub returns-in-Err : goal.returns-in-Err
returns-in-Err c = stopped c.args.image.now c.args.len c.in-Err.why c.in-Err.ensures.allocated.1
