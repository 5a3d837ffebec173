use Rattle.std.proofs.Common.{◌+◌}
use Rattle.hive_emit.specs.CellWrites.{cell_cost}
use Rattle.hive_emit.proofs.NewCells.{put_made}
use Rattle.hive_emit.proofs.cells.put_cell.Goals as goal

pub returns : goal.returns
returns c = (
  put_made c.args.image.now.bytes c.new_cell.new.image.bytes c.fill.new.image.bytes c.in-Ok.at c.args.len c.args.encoding.now c.in-Ok.ensures.0 c.fill.ensures,
  (λ front more r. let l = c.in-Ok.ensures.2 front more r in (l.0, c.fill.ensures.room (front + cell_cost c.args.len) more l.1)),
)
