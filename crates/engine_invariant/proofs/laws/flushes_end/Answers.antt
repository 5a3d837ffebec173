use Rattle.engine_invariant.proofs.FlushesEnd.{flush_ends, flush_begins}
use Rattle.engine_invariant.proofs.laws.flushes_end.Goals as goal

pub returns : goal.returns
returns c = λ hives flushes numbers answers rests steps. (flush_ends hives flushes numbers answers rests steps, (flush_begins hives flushes numbers answers rests steps).takes)
