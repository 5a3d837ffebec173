use Rattle.std.proofs.Common.{arith}
use Rattle.hive_cells.specs.Starts.{HasStartBits}
use Rattle.hive_cells.proofs.Outcomes.{room_found}
use Rattle.hive_cells.proofs.image.Image.find_room.Goals as goal

pub returns-in-Some : goal.returns-in-Some
returns-in-Some c =
    let k : HasStartBits c.args.self.now.bytes c.self.inside.starts.items = rw (← c.self.view_is) c.self.invariant.indexed.cells in
    rw c.in-Some.ensures.same (room_found _ _ _ _ k c.requires.limit c.in-Some.ensures.found.0 c.in-Some.ensures.found.1, omega arith)
