use Rattle.store_driver.proofs.Later.{later_same}
use Rattle.store_change.proofs.report.report_outcome.Goals as goal

pub returns-in_err-tell-clause-later : goal.returns-in_err-tell-clause-later
returns-in_err-tell-clause-later g c = later_same g.D.Disk.faithful g.D.Disk.failures c.args.engine.now
