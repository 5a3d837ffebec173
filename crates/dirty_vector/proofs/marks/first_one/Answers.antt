use Rattle.std.proofs.Common.{arith}
use Rattle.dirty_vector.proofs.Firsts.{none_from, one_from}
use Rattle.dirty_vector.proofs.marks.first_one.Goals as goal

pub returns-then-rest-eq0 : goal.returns-then-rest-eq0
returns-then-rest-eq0 c = none_from c.args.word c.args.low c.requires c.if-rest-eq0.true

pub returns-else-rest-eq0 : goal.returns-else-rest-eq0
returns-else-rest-eq0 c = one_from c.args.word c.args.low c.requires (omega (arith, c.ranges.word.fits)) c.if-rest-eq0.false
