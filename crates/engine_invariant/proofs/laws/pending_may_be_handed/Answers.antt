use Rattle.refusals.specs.declared.limits.TheConstants.{GREATEST_NUMBER}
use Rattle.engine_invariant.specs.Rules.{rules}
use Rattle.engine_invariant.proofs.Handing.{may_be_handed}
use Rattle.engine_invariant.proofs.laws.pending_may_be_handed.Goals as goal

pub returns : goal.returns
returns c = may_be_handed (λ named s hives kept. c.clauses_suffice.ensures.may_follow (rules named) GREATEST_NUMBER hives s kept)
