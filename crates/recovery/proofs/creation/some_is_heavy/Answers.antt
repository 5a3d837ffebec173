use Rattle.std.proofs.Common.{arith}
use Rattle.std.proofs.lemmas.Option.{slice_get_within}
use Rattle.recovery.proofs.creation.some_is_heavy.Goals as goal

pub returns-then-weight-gt-MOST_WEIGHT-clause-heavy : goal.returns-then-weight-gt-MOST_WEIGHT-clause-heavy
returns-then-weight-gt-MOST_WEIGHT-clause-heavy c = λ _. (c.loop-hive.hive, c.tree_at.result.now, c.tree_at.ensures, omega (arith, c.weight.ensures, c.if-weight-gt-MOST_WEIGHT.true))

pub returns-clause-light : goal.returns-clause-light
returns-clause-light c = λ _ hive tree at.
    let there = slice_get_within c.args.trees.now hive tree at in
    c.loop-hive.invariant hive tree (omega (arith, there, c.len-hive-end.ensures.all, c.loop-hive-test.false, c.requires.few)) at
