use Rattle.dirty_vector.proofs.Sets.{bitmap_again}
use Rattle.dirty_vector.proofs.vector.DirtyVector.bitmap_round_trip.Goals as goal

pub returns : goal.returns
returns c = bitmap_again c.self.inside.bins_size c.self.inside.words.items c.args.self.now c.self.invariant c.self.view_is
