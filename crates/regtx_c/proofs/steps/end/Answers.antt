-- The last step's key, or the root.
use Rattle.std.proofs.Common.{sym, ap, ◌∙◌}
use Rattle.std.specs.FinMap as finite
use Rattle.regtx_c.specs.Ways.{end_of}
use Rattle.regtx_c.proofs.Ways.{end_is, no_steps, root_entries, root_node}
use Rattle.regtx_c.proofs.steps.end.Goals as goal

pub returns-in-Some-clause-end : goal.returns-in-Some-clause-end
returns-in-Some-clause-end c = sym (ap (end_of c.args.tree.now) c.in-Some.ensures.cases.0 ∙ end_is (finite.entries c.args.tree.now) c.in-Some.field-0-1.now c.in-Some.step.now)

pub returns-in-Some-clause-root : goal.returns-in-Some-clause-root
returns-in-Some-clause-root c = root_node c.args.tree.now c.root-root.result.now c.root-root.ensures.same c.root-root.ensures.node

pub returns-in-None-clause-end : goal.returns-in-None-clause-end
returns-in-None-clause-end c = sym (ap (end_of c.args.tree.now) (no_steps c.args.way.now c.in-None.ensures.cases) ∙ root_entries c.args.tree.now c.root-root.result.now c.root-root.ensures.same c.root-root.ensures.node)

pub returns-in-None-clause-root : goal.returns-in-None-clause-root
returns-in-None-clause-root c = root_node c.args.tree.now c.root-root.result.now c.root-root.ensures.same c.root-root.ensures.node
