use Rattle.std.proofs.Common.{sym}
use Rattle.store_export.proofs.Hives.{json_more}
use Rattle.store_export.proofs.trees.print_all_json.Goals as goal

pub loop-hive-preserved : goal.loop-hive-preserved
loop-hive-preserved g c =
    let contents = g.W.Write.contents in
    λ after later. c.loop-hive.invariant after
    (json_more c.args.trees.now c.loop-hive.hive c.in-Some.tree.now (contents c.loop-hive.writer) (contents c.print_json.new.writer) after (sym c.in-Some.ensures) c.in_ok-print_json.ensures later)
