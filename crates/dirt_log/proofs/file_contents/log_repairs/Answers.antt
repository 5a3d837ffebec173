use Rattle.dirt_log.proofs.Replaced.{repairs}
use Rattle.dirt_log.proofs.file_contents.log_repairs.Goals as goal

pub returns : goal.returns
returns c = λ image primary v sizes whole same. repairs image primary v sizes whole same
