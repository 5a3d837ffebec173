use Rattle.disk_model.proofs.Steps.{told_may_cut}
use Rattle.disk_model.proofs.mem_disk.cut_and_fail.Goals as goal

pub returns-clause-cut : goal.returns-clause-cut
returns-clause-cut c = told_may_cut c.cut.result _ _ _ c.cut.ensures.done c.cut.ensures.failed
