use Rattle.hive_cells.proofs.Reached.{marked_tiles}
use Rattle.hive_cells.proofs.OneTile.{one_tile}
use Rattle.hive_cells.proofs.Images.{shown}
use Rattle.hive_cells.proofs.image.Image.tiles.Goals as goal

pub returns-clause-tiles : goal.returns-clause-tiles
returns-clause-tiles c = rw (← c.self.view_is) (marked_tiles _ _ c.self.invariant.indexed.cells.all)

pub returns-clause-once : goal.returns-clause-once
returns-clause-once c = rw (← c.self.view_is) (one_tile _ _ c.self.invariant.indexed.cells.all c.args.at)

pub returns-clause-shown : goal.returns-clause-shown
returns-clause-shown c = rw (← c.self.view_is) (shown _ _ c.self.invariant.indexed.cells)
