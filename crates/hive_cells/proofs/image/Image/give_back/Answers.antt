use Rattle.hive_cells.specs.Starts.{HasStartBits}
use Rattle.hive_cells.proofs.Outcomes.{freed}
use Rattle.hive_cells.proofs.image.Image.give_back.Goals as goal

pub returns-clause-freed : goal.returns-clause-freed
returns-clause-freed c =
    let k : HasStartBits c.args.self.now.bytes c.self.inside.starts.items = rw (← c.self.view_is) c.self.invariant.indexed.cells in
    freed _ _ _ _ _ _ _ k c.requires.allocated c.requires.limit c.turn.ensures.turned c.join_behind.ensures.joined c.join_before.ensures.joined
