use Rattle.std.proofs.Common.{sym, ◌∙◌}
use Rattle.hive_walk.proofs.Order.{apart_if}
use Rattle.hive_walk.proofs.siblings.are_named.Goals as goal

pub returns-clause-apart : goal.returns-clause-apart
returns-clause-apart c = λ e. apart_if c.args.siblings.now c.sort.new.siblings c.sort.ensures.same (sym c.rises.ensures ∙ e)
