use Rattle.disk_model.proofs.Unwritten.{left_again}
use Rattle.disk_model.proofs.laws.left_files_rest.Goals as goal

pub returns-clause-left : goal.returns-clause-left
returns-clause-left c = left_again
