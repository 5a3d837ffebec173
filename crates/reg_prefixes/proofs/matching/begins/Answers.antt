use Rattle.std.proofs.Common.{sym, ◌∙◌}
use Rattle.reg_prefixes.proofs.Begun.{none_left}
use Rattle.reg_prefixes.proofs.matching.begins.Goals as goal

pub returns-in_default : goal.returns-in_default
returns-in_default c = sym (c.loop-unit.invariant ∙ none_left c.args.prefix.now c.loop-unit.unit-index c.loop-unit.rest.now c.loop-unit-test.true c.in_default.len_below)
