use Rattle.hive_recovery.proofs.States.{last_state}
use Rattle.hive_recovery.proofs.laws.goes_on.Goals as goal

pub returns : goal.returns
returns c = last_state
