use Rattle.hive_cells.specs.Starts.{HasStartBits}
use Rattle.hive_cells.proofs.Outcomes.{taken}
use Rattle.hive_cells.proofs.image.Image.take.Goals as goal

pub returns-clause-taken : goal.returns-clause-taken
returns-clause-taken c =
    let k : HasStartBits c.args.self.now.bytes c.self.inside.starts.items = rw (← c.self.view_is) c.self.invariant.indexed.cells in
    taken _ _ _ _ _ _ k c.requires.least c.requires.free c.fit.ensures.fit c.turn.ensures.turned
