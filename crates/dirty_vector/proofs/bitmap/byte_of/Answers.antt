use Rattle.std.proofs.lemmas.Nat.{and_mask}
use Rattle.std.proofs.Common.{◌/◌, ◌*◌, ◌^◌}
use Rattle.dirty_vector.proofs.bitmap.byte_of.Goals as goal

pub returns : goal.returns
returns c = and_mask (c.args.word / 2 ^ (8 * c.args.index)) 8
