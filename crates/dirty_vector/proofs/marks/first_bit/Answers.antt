use Rattle.std.proofs.Common.{arith}
use Rattle.dirty_vector.proofs.Firsts.{clear_from}
use Rattle.dirty_vector.proofs.marks.first_bit.Goals as goal

pub returns-else-marked : goal.returns-else-marked
returns-else-marked c = rw c.if-marked.false (clear_from c.args.word c.args.low c.first_one-else-marked.result (omega (arith, c.ranges.word.fits)) c.first_one-else-marked.ensures)
