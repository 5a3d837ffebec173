use Rattle.conflicts.proofs.Meets.{begins_is}
use Rattle.conflicts.proofs.claim.begins.Goals as goal

pub returns-then-one-other : goal.returns-then-one-other
returns-then-one-other c = rw (← c.one.view_is, ← c.other.view_is) (begins_is _ _ _ c.if-one-other.true c.begins.ensures)
