use Rattle.disk_model.specs.StoreFiles.{IsPrimaryFile}
use Rattle.disk_model.proofs.Unwritten.{left_at_first, shown_after}
use Rattle.disk_model.proofs.laws.syncs_leave_what_was.Goals as goal

pub returns-clause-left : goal.returns-clause-left
returns-clause-left c = left_at_first IsPrimaryFile

pub returns-clause-honest : goal.returns-clause-honest
returns-clause-honest c = shown_after IsPrimaryFile
