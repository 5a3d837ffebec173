use Rattle.std.proofs.Common.{◌≡◌}
use Rattle.hive_edit.specs.SegmentCells.{segment_words, FreesButKeeps}
use Rattle.hive_edit.proofs.segment_frees.free_segments.Given as goal

abbrev pub invariant-loop-index : goal.invariant-loop-index
invariant-loop-index l = record {
  freed : FreesButKeeps l.fn.image.bytes l.image.bytes (segment_words l.fn.image.bytes l.list l.count) l.list;
  saved : l.image.saved ≡ l.fn.image.saved;
}
