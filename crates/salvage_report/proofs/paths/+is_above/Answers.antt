use Rattle.std.proofs.Common.{sym, ◌∙◌}
use Rattle.key_walk.specs.KeyPaths.{names_on}
use Rattle.salvage_report.proofs.Ways.{same_above, above_front, above_none}
use Rattle.salvage_report.proofs.paths.+is_above.Goals as goal

pub returns-then-leads_to : goal.returns-then-leads_to
returns-then-leads_to t c = sym (same_above c.args.names.now (names_on c.args.path.now) (sym c.leads_to.ensures ∙ c.if-leads_to.true))

pub returns-in-Some : goal.returns-in-Some
returns-in-Some t c = c.is_above.ensures ∙ above_front c.args.names.now c.in-Some.front.now (names_on c.args.path.now) _ c.in-Some.ensures.cases.0 (sym c.leads_to.ensures ∙ c.if-leads_to.false)

pub returns-in-None : goal.returns-in-None
returns-in-None t c = above_none c.args.names.now (names_on c.args.path.now) c.in-None.ensures.cases (sym c.leads_to.ensures ∙ c.if-leads_to.false)
