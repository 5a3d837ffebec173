use Rattle.conflicts.proofs.ClaimState.{keeps, always, begins}
use Rattle.conflicts.proofs.skeleton_laws.at_any_time.Goals as goal

pub returns-clause-begins : goal.returns-clause-begins
returns-clause-begins c = λ s. begins s

pub returns-clause-step : goal.returns-clause-step
returns-clause-step c = λ old new k s. keeps old new k s

pub returns-clause-always : goal.returns-clause-always
returns-clause-always c = λ m ns k r. always m ns k r
