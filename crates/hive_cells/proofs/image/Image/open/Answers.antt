use Rattle.std.proofs.Common.{refl}
use Rattle.hive_cells.proofs.Reached.{marked_tiles}
use Rattle.hive_cells.proofs.image.Image.open.Goals as goal

pub returns-in-Ok : goal.returns-in-Ok
returns-in-Ok c = (refl, rw (← c.deref.ensures.value) (marked_tiles _ c.in-Ok.ensures.cells.marks c.in-Ok.ensures.cells.all))
