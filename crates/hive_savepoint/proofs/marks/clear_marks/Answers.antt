use Rattle.std.proofs.Common.{refl, arith, length, ◌<◌, ◌*◌, ◌/◌, ◌∙◌, slice_index}
use Rattle.std.proofs.lemmas.List.{length-set}
use Rattle.hive_savepoint.proofs.MarkedPages.{one_behind, none_ahead}
use Rattle.hive_savepoint.proofs.marks.clear_marks.Goals as goal

pub loop-index-init : goal.loop-index-init
loop-index-init c = (refl, λ page set. let h = c.requires.all page set in (h.0, omega arith, h.1))

pub loop-index-preserved : goal.loop-index-preserved
loop-index-preserved c =
    let words = c.loop-index.words in
    let word = slice_index c.args.pages.now c.loop-index.index / 64 in
    let within : word < length words = (let low : slice_index c.args.pages.now c.loop-index.index < 64 * length c.args.words.now = c.requires.within c.loop-index.index c.loop-index-test.true in omega (arith, low, c.loop-index.invariant.0)) in
    (length-set words word 0 ∙ c.loop-index.invariant.0, one_behind words word within c.args.pages.now c.loop-index.index refl c.loop-index.invariant.1)

pub returns : goal.returns
returns c = none_ahead c.loop-index.words c.args.pages.now c.loop-index.index c.loop-index-test.false c.loop-index.invariant.1
