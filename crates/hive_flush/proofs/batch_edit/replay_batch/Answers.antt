use Rattle.std.proofs.Common.{sym, ap, ◌∙◌}
use Rattle.std.proofs.lemmas.Result.{IfOk-weaker}
use Rattle.hive_flush.specs.HiveStates.{tree_after_changes}
use Rattle.hive_flush.proofs.Legal.{led_on}
use Rattle.hive_flush.proofs.batch_edit.replay_batch.Goals as goal

pub returns-clause-tree : goal.returns-clause-tree
returns-clause-tree c =
    let hive = c.args.hive in
    let then = c.args.then.now in
    IfOk-weaker c.replay_changes-2.result _ _ (λ made is. is ∙ ap (tree_after_changes hive then) c.in_ok-made.ensures.tree ∙ sym (led_on hive c.args.first.now then c.args.tree)) c.replay_changes-2.ensures.tree
