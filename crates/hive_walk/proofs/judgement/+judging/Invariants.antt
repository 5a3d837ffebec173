use Rattle.std.proofs.Common.{◌≡◌, ◌+◌, ◌*◌, length, take}
use Rattle.hive_cells.specs.Bins.{Cells, Shows}
use Rattle.hive_load_parts.specs.CellReads.{marks_of}
use Rattle.hive_load_parts.specs.Descriptors.{AreDescriptors}
use Rattle.hive_walk.specs.Judgements.{KeysAreJudged}
use Rattle.hive_walk.proofs.judgement.+judging.Given as goal

abbrev pub decreases-judge_below : goal.decreases-judge_below
decreases-judge_below l = 3 * l.levels

abbrev pub decreases-judge_key : goal.decreases-judge_key
decreases-judge_key l = 3 * l.levels + 1

abbrev pub decreases-judge_keys : goal.decreases-judge_keys
decreases-judge_keys l = 3 * l.levels + 2

abbrev pub invariant-judge_keys-loop-at : goal.invariant-judge_keys-loop-at
invariant-judge_keys-loop-at l = record {
  covers : length l.seen ≡ length l.fn.seen;
  known : AreDescriptors l.image.bytes l.known;
  judged : (cells : Cells) → Shows l.image.bytes cells → KeysAreJudged l.split cells (marks_of l.fn.seen) (marks_of l.seen) l.fn.known l.known l.levels (take l.at-index l.offsets) l.siblings.items;
}
