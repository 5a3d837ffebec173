use Rattle.salvage_report.proofs.damaged_hive.root_is_read.Goals as goal

pub returns-in-Ok : goal.returns-in-Ok
returns-in-Ok c cells shows = let found = c.in-Ok.ensures cells shows in (found.0, found.1)
