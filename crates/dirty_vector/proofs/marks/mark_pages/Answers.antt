use Rattle.std.proofs.Common.{arith}
use Rattle.dirty_vector.proofs.Words.{mark_word, mark_none, mark_all}
use Rattle.dirty_vector.proofs.marks.mark_pages.Goals as goal

pub loop-index-init : goal.loop-index-init
loop-index-init c = mark_none c.args.words.now c.args.first c.args.last

pub loop-index-preserved : goal.loop-index-preserved
loop-index-preserved c =
    let low = c.saturating_sub-low.ensures in
    let high = c.min-high.ensures in
    mark_word c.args.words.now c.loop-index.words c.args.first c.args.last c.loop-index.index c.mask.result (omega arith) (omega arith)
    (rw (← low, ← high) c.mask.ensures) c.loop-index.invariant

pub returns : goal.returns
returns c = mark_all c.args.words.now c.loop-index.words c.args.first c.args.last c.loop-index.index (omega arith) c.loop-index.invariant
