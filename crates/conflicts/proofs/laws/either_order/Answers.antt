use Rattle.conflicts.proofs.EitherOrder.{at_one_moment, unwritten, written, but_for_times}
use Rattle.conflicts.proofs.laws.either_order.Goals as goal

pub returns-clause-exact : goal.returns-clause-exact
returns-clause-exact c = at_one_moment c.stays_legal.ensures

pub returns-clause-unwritten : goal.returns-clause-unwritten
returns-clause-unwritten c = unwritten c.stays_legal.ensures

pub returns-clause-written : goal.returns-clause-written
returns-clause-written c = written c.stays_legal.ensures

pub returns-clause-but_for_times : goal.returns-clause-but_for_times
returns-clause-but_for_times c = but_for_times c.stays_legal.ensures
