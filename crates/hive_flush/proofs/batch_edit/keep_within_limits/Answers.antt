use Rattle.hive_flush.proofs.Editing.{within}
use Rattle.hive_flush.proofs.batch_edit.keep_within_limits.Goals as goal

pub returns-then-weight-le-MOST_WEIGHT-clause-done : goal.returns-then-weight-le-MOST_WEIGHT-clause-done
returns-then-weight-le-MOST_WEIGHT-clause-done c = λ done. (c.requires.encodes done, within c.args.made.tree c.weight.result c.root.ensures.encodable c.weight.ensures c.if-weight-le-MOST_WEIGHT.true)
