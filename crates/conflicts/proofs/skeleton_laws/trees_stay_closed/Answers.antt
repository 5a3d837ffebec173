use Rattle.conflicts.proofs.Tests.{key_is, key_begins}
use Rattle.conflicts.proofs.Closed.{stays_closed, same_is, begins_is_true}
use Rattle.conflicts.proofs.skeleton_laws.trees_stay_closed.Goals as goal

pub returns-clause-step : goal.returns-clause-step
returns-clause-step c = λ s o k l. stays_closed s k o l

pub returns-clause-same : goal.returns-clause-same
returns-clause-same c = λ k l. (λ h. key_is k l h, λ h. same_is k l h)

pub returns-clause-begins : goal.returns-clause-begins
returns-clause-begins c = λ k l. (λ h. key_begins k l h, λ h. begins_is_true k l h)
