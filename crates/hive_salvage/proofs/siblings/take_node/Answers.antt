use Rattle.std.proofs.Common.{inl, inr, sym, ◌∙◌}
use Rattle.hive_salvage.proofs.siblings.take_node.Goals as goal

pub returns-then-is_nameless-clause-taken : goal.returns-then-is_nameless-clause-taken
returns-then-is_nameless-clause-taken c = λ cells shows. let its = c.in-Ok.ensures cells shows in inr (inr (inl (its.0, its.1, sym its.2 ∙ c.is_nameless.ensures.yes c.if-is_nameless.true, c.from.ensures)))

pub returns-in-Ok-look_once-clause-taken : goal.returns-in-Ok-look_once-clause-taken
returns-in-Ok-look_once-clause-taken c = λ cells shows. let its = c.in-Ok.ensures cells shows in (its.0, its.1, its.2, c.is_nameless.ensures.no c.if-is_nameless.false, c.in-Ok-look_once.field-0.now, c.in-Ok-look_once.ensures.reads cells shows)
