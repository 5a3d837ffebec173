-- The way without its last step leads to the key above.
use Rattle.std.specs.FinMap as finite
use Rattle.regtx_c.proofs.Ways.{popped_on, popped_steps, root_node}
use Rattle.regtx_c.proofs.steps.go_up.Goals as goal

pub returns-clause-on : goal.returns-clause-on
returns-clause-on c = popped_on (finite.entries c.args.tree.now) c.args.way.now.items c.pop.new.self.items c.pop.result c.pop.ensures.items c.requires

pub returns-clause-steps : goal.returns-clause-steps
returns-clause-steps c =
    popped_steps c.args.tree.now c.args.way.now.items c.pop.new.self.items c.in-Some.field-0 (root_node c.args.tree.now c.root.result.now c.root.ensures.same c.root.ensures.node) c.in-Some.ensures.items c.requires
