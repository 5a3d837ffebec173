use Rattle.std.proofs.Common.{sym, ◌∙◌}
use Rattle.hive_flush.proofs.Times.{last_here, last_elsewhere, none_left}
use Rattle.hive_flush.proofs.change_replay.last_moment.Goals as goal

pub changes-preserved : goal.changes-preserved
changes-preserved c =
    sym (last_elsewhere c.args.hive c.changes.left.now c.in-Some.before.now c.in-Some.change.now c.args.otherwise c.in-Some.ensures.cases.0 (sym c.is_on.ensures ∙ c.if-is_on.false))
    ∙ c.changes.invariant

pub returns-then-is_on : goal.returns-then-is_on
returns-then-is_on c =
    c.moment.ensures ∙ sym (last_here c.args.hive c.changes.left.now c.in-Some.before.now c.in-Some.change.now c.args.otherwise c.in-Some.ensures.cases.0 (sym c.is_on.ensures ∙ c.if-is_on.true))
    ∙ c.changes.invariant

pub returns : goal.returns
returns c = sym (none_left c.args.hive c.changes.left.now c.args.otherwise c.in_default.ensures.cases) ∙ c.changes.invariant
