use Rattle.store_model.proofs.Failing.{only_steps_fail}
use Rattle.store_model.proofs.laws.only_steps_fail.Goals as goal

pub returns : goal.returns
returns c = only_steps_fail
