use Rattle.std.proofs.Common.{◌+◌, ◌*◌, arith}
use Rattle.hive_mending.proofs.Steps.{restart_none, restart_later, restart_here}
use Rattle.hive_mending.proofs.restarts.restart.Goals as goal

pub returns-then-count-counts : goal.returns-then-count-counts
returns-then-count-counts c = restart_later _ _ _ _ (c.args.first + c.args.place * 8) _ _ c.requires.first c.requires.last c.requires.before (omega arith) c.requires.later _ c.in-Some.ensures.0 c.in-Some.ensures.1 c.if-count-counts.true

pub returns-else-count-counts : goal.returns-else-count-counts
returns-else-count-counts c = restart_here _ _ _ _ (c.args.first + c.args.place * 8) _ _ c.requires.first c.requires.last c.requires.before (omega arith) c.requires.later _ c.in-Some.ensures.0 c.in-Some.ensures.1 c.if-count-counts.false

pub returns-in-None : goal.returns-in-None
returns-in-None c = restart_none _ _ _ _ (c.args.first + c.args.place * 8) _ _ c.requires.first c.requires.last c.requires.before (omega arith) c.requires.later c.in-None.ensures
