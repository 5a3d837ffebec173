use Rattle.std.proofs.Common.{rules}
use Rattle.conflicts.proofs.IndexKeyRanges.{none_listed}
use Rattle.conflicts.proofs.table.first_of.Goals as goal

pub returns-in-None-clause-none : goal.returns-in-None-clause-none
returns-in-None-clause-none c = λ number lt has.
    none_listed c.args.owner.0 number c.args.owned.now.keys c.range.result (rw (c.new.ensures.start, c.new.ensures.end) at (c.range.ensures.between (search rules))) c.in-None.ensures.steps.0 lt has
