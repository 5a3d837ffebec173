use Rattle.store_model.proofs.NonSteps.{non_step}
use Rattle.store_model.proofs.laws.only_steps_make_durable.Goals as goal

pub returns : goal.returns
returns c = λ old new event reply kept quiet step. non_step c.commits_stay_legal.ensures.within old new kept event reply quiet step
