use Rattle.std.proofs.Common.{rules}
use Rattle.conflicts.proofs.table.take_own.Goals as goal

pub returns-then-own-clause-some : goal.returns-then-own-clause-some
returns-then-own-clause-some c = search rules

pub returns-else-own-clause-none : goal.returns-else-own-clause-none
returns-else-own-clause-none c = search rules
