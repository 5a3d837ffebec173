use Rattle.std.proofs.Common.{◌≡◌, List, sym, ap, subst, ◌∙◌}
use Rattle.std.specs.Prelude.{IfOk}
use Rattle.crash_model.specs.Changes.{applied}
use Rattle.reg_tree.specs.Maps.{TreeMap}
use Rattle.change_codec.specs.ModelChanges.{TimedOp, tree_rules}
use Rattle.hive_flush.proofs.Replayed.{none_here, found_here}
use Rattle.hive_flush.proofs.change_replay.after_change.Goals as goal

pub returns-then-not-is_on-clause-tree : goal.returns-then-not-is_on-clause-tree
returns-then-not-is_on-clause-tree c =
    let change = c.args.change.now in
    sym (ap (λ (ops : List TimedOp). applied tree_rules ops c.args.made.tree) (none_here c.args.hive change.moment change.ops (sym c.is_on.ensures ∙ c.if-not-is_on.true)))

pub returns-clause-tree : goal.returns-clause-tree
returns-clause-tree c =
    let change = c.args.change.now in
    let there = ap (λ (ops : List TimedOp). applied tree_rules ops c.args.made.tree)
    (found_here c.args.hive c.moment.result change.moment c.deref.result.now change.ops c.moment.ensures (c.deref.ensures.value ∙ c.in_ok-ops.ensures)) in
    subst (λ (tree : TreeMap). IfOk c.after_ops.result (λ next. next.tree ≡ tree)) there c.after_ops.ensures.tree
