use Rattle.std.specs.Arc.{arc_value}
use Rattle.reg_tree.proofs.Depths.{near_missing, near_is_there}
use Rattle.reg_tree.proofs.tree.Tree.nearest.Goals as goal

pub returns-clause-missing : goal.returns-clause-missing
returns-clause-missing c = rw (← c.self.view_is) (near_missing (arc_value c.self.inside.root) c.self.invariant c.args.path.now c.nearest-depth.result.1 c.nearest-depth.result.0.now c.key.result.now c.nearest-depth.ensures.within (rw c.deref.ensures at c.nearest-depth.ensures.there) (rw c.deref.ensures at c.nearest-depth.ensures.missing) c.key.ensures.here)

pub returns-clause-there : goal.returns-clause-there
returns-clause-there c = rw (← c.self.view_is) (near_is_there (arc_value c.self.inside.root) c.self.invariant c.args.path.now c.nearest-depth.result.1 c.nearest-depth.result.0.now c.key.result.now c.nearest-depth.ensures.within (rw c.deref.ensures at c.nearest-depth.ensures.there) (rw c.deref.ensures at c.nearest-depth.ensures.missing) c.key.ensures.here)
