use Rattle.std.proofs.Common.{arith}
use Rattle.hive_cells.proofs.Bounds.{group_put}
use Rattle.hive_cells.proofs.free_bounds.FreeBounds.put.Goals as goal

pub invariant_of-self : goal.invariant_of-self
invariant_of-self c =
    group_put c.self.inside.pages.items c.self.inside.groups.items c.args.page c.args.size c.greatest.result c.min-end.result c.self.invariant
    (rw c.self.view_is c.requires) (omega (arith, c.min-end.ensures, c.len.ensures, c.self.inside.pages.ok.0))
    (rw (← c.deref.ensures.value) c.greatest.ensures)
