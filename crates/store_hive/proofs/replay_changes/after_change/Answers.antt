use Rattle.std.proofs.Common.{◌≡◌, List, Option, Some, None, ap, subst, ◌∙◌}
use Rattle.std.specs.Prelude.{IfOk, IfErr}
use Rattle.refusals.specs.Answers.{RefusedFor}
use Rattle.refusals.specs.declared.refusal.Refusal.TheVariants.{JournalDamaged}
use Rattle.crash_model.specs.Changes.{replay}
use Rattle.reg_tree.specs.Maps.{TreeMap}
use Rattle.change_codec.specs.ModelChanges.{TimedOp, tree_rules}
use Rattle.hive_flush.proofs.Replayed.{found_here}
use Rattle.store_hive.proofs.replay_changes.after_change.Goals as goal

pub returns-clause-made : goal.returns-clause-made
returns-clause-made c =
    let change = c.args.change.now in
    let there = ap (λ (ops : List TimedOp). replay tree_rules ops c.in_ok-tree.tree)
    (found_here c.args.hive c.moment.result change.moment c.deref.result.now change.ops c.moment.ensures (c.deref.ensures.value ∙ c.in_ok-ops.ensures))
    ∙ ap (replay tree_rules _) c.in_ok-tree.ensures in
    subst (λ (led : Option TreeMap). IfOk c.after_ops.result (λ made. led ≡ Some made)) there c.after_ops.ensures.made

pub returns-clause-fails : goal.returns-clause-fails
returns-clause-fails c =
    let change = c.args.change.now in
    let there = ap (λ (ops : List TimedOp). replay tree_rules ops c.in_ok-tree.tree)
    (found_here c.args.hive c.moment.result change.moment c.deref.result.now change.ops c.moment.ensures (c.deref.ensures.value ∙ c.in_ok-ops.ensures))
    ∙ ap (replay tree_rules _) c.in_ok-tree.ensures in
    subst (λ (led : Option TreeMap). IfErr c.after_ops.result (RefusedFor JournalDamaged (led ≡ None))) there c.after_ops.ensures.fails
