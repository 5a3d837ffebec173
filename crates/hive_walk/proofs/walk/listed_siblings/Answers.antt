use Rattle.std.proofs.Common.{◌∙◌, ap, length, arith}
use Rattle.std.proofs.lemmas.List.{take_all}
use Rattle.hive_walk.specs.Siblings.{siblings_in}
use Rattle.hive_walk.proofs.Walked.{one_sibling, listed_key, same_length}
use Rattle.hive_walk.proofs.walk.listed_siblings.Goals as goal

pub returns-in-Err : goal.returns-in-Err
returns-in-Err c = λ cells shows split keys fits e.
    let its = listed_key split cells keys fits c.args.listed.now e c.loop-at.at-index c.loop-at-test.true in
    c.in-Err.ensures cells shows split its.0 its.1

pub loop-at-preserved : goal.loop-at-preserved
loop-at-preserved c = λ cells shows split keys fits e. c.in_ok-push.ensures.items
    ∙ one_sibling split cells keys fits c.args.listed.now e c.loop-at.siblings.items c.loop-at.at-index c.loop-at-test.true (c.loop-at.invariant cells shows split keys fits e) c.in-Ok.name (λ parts r. c.in-Ok.ensures cells shows split parts r)

pub returns : goal.returns
returns c = λ cells shows split keys fits e.
    let counted = same_length split cells keys in
    let listed = ap length e in
    c.loop-at.invariant cells shows split keys fits e ∙ take_all c.loop-at.at-index (siblings_in keys) (omega (arith, counted, listed, c.loop-at-test.false))
