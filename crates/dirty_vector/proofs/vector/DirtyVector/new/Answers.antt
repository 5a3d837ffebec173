use Rattle.std.proofs.Common.{inl}
use Rattle.dirty_vector.proofs.Sets.{made_fresh}
use Rattle.dirty_vector.proofs.vector.DirtyVector.new.Goals as goal

pub returns : goal.returns
returns c = inl (made_fresh c.args.bins_size c.in_ok-words.words.items c.in_ok-words.ensures.ok)
