use Rattle.std.proofs.Common.{◌∙◌}
use Rattle.hive_edit.proofs.ValueSegments.{one_more}
use Rattle.hive_edit.proofs.segment_frees.free_segments.Goals as goal

pub loop-index-preserved : goal.loop-index-preserved
loop-index-preserved c = record {
  freed = one_more c.args.image.now.bytes c.loop-index.image.bytes c.free.new.self.bytes c.args.list c.segment_count-count.result c.loop-index.index c.in-Some.word c.loop-index.invariant.freed c.in-Some.ensures.there c.in-Some.ensures.word c.loop-index-test.true c.if-word-list.false c.in_ok-free.ensures.dropped;
  saved = c.in_ok-free.ensures.saved ∙ c.loop-index.invariant.saved;
}
