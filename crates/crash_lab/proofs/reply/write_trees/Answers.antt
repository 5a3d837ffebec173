use Rattle.std.proofs.Common.{take, sym, arith}
use Rattle.crash_lab.proofs.TreeTexts.{named_tree, one_tree_more}
use Rattle.crash_lab.proofs.reply.write_trees.Goals as goal

pub loop-hive-preserved : goal.loop-hive-preserved
loop-hive-preserved g c =
    let contents = g.W.Write.contents in
    λ after later. c.loop-hive.invariant after
    (one_tree_more (take c.args.hives c.args.trees.now) c.loop-hive.hive c.in-Some.tree.now (contents c.loop-hive.writer) (contents c.write_tree.new.writer) after
    (named_tree c.args.trees.now c.args.hives c.loop-hive.hive c.in-Some.tree.now (omega (arith, c.loop-hive-test.true)) (sym c.in-Some.ensures)) c.in_ok-write_tree.ensures later)
