use Rattle.dirty_vector.proofs.Words.{mask_is}
use Rattle.dirty_vector.proofs.marks.mask.Goals as goal

pub returns : goal.returns
returns c = mask_is c.args.low c.args.high c.requires.some c.requires.inside
