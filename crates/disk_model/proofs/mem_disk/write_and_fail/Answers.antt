use Rattle.disk_model.proofs.Steps.{told_may_write}
use Rattle.disk_model.proofs.mem_disk.write_and_fail.Goals as goal

pub returns-clause-written : goal.returns-clause-written
returns-clause-written c = told_may_write c.write.result _ _ _ _ c.write.ensures.done c.write.ensures.failed
