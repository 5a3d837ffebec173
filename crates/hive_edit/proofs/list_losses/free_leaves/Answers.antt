use Rattle.std.proofs.Common.{◌∙◌}
use Rattle.hive_edit.proofs.ListFrees.{one_more}
use Rattle.hive_edit.proofs.list_losses.free_leaves.Goals as goal

pub loop-index-preserved : goal.loop-index-preserved
loop-index-preserved c = record {
  freed = one_more c.args.image.now.bytes c.loop-index.image.bytes c.free.new.self.bytes c.args.at c.args.count c.loop-index.index c.in-Some.leaf c.loop-index.invariant.freed c.in-Some.ensures.there c.in-Some.ensures.word c.loop-index-test.true c.if-leaf-at.false c.in_ok-free.ensures.dropped;
  saved = c.in_ok-free.ensures.saved ∙ c.loop-index.invariant.saved;
}
