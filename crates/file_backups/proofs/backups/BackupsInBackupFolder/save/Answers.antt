use Rattle.std.proofs.lemmas.Result.{on_ok_weaker}
use Rattle.file_disk.specs.Records.{calls_in}
use Rattle.file_backups.proofs.backups.BackupsInBackupFolder.save.Goals as goal

pub returns-in-Ok : goal.returns-in-Ok
returns-in-Ok g c = record { saved = on_ok_weaker c.write_copy.result (λ recovers. (calls_in c.write_copy.new.disk.calls, recovers)) c.write_copy.ensures.recovers }
