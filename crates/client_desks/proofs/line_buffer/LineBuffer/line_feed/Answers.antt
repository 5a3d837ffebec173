use Rattle.client_desks.proofs.LineFeeds.{first_left, none_left}
use Rattle.client_desks.proofs.line_buffer.LineBuffer.line_feed.Goals as goal

pub returns-in_err-at : goal.returns-in_err-at
returns-in_err-at c = let i = c.self.inside in rw (c.from_residual.ensures, ← c.self.view_is) (none_left i.start i.searched i.bytes.items c.self.invariant.2 (rw c.deref.ensures.value at c.in_err-at.ensures.none))

pub returns : goal.returns
returns c = let i = c.self.inside in rw (← c.self.view_is) (first_left i.start i.searched c.in_ok-at.at i.bytes.items c.self.invariant.2 (rw c.deref.ensures.value at c.in_ok-at.ensures.first.0) (rw c.deref.ensures.value at c.in_ok-at.ensures.first.1))
