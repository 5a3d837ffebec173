use Rattle.disk_model.proofs.Moments.{states_begun}
use Rattle.disk_model.proofs.mem_disk.MemDisk.new.Goals as goal

pub returns-clause-files : goal.returns-clause-files
returns-clause-files c = λ k f. states_begun c.new.result.items k f c.new.ensures.items
