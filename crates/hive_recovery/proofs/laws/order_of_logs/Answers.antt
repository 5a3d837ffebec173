use Rattle.hive_recovery.proofs.Swapped.{same_plan}
use Rattle.hive_recovery.proofs.laws.order_of_logs.Goals as goal

pub returns : goal.returns
returns c = same_plan
