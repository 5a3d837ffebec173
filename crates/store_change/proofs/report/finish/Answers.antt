use Rattle.store_driver.proofs.Later.{later_same}
use Rattle.store_change.proofs.Steps.{steps_keep}
use Rattle.store_change.proofs.report.finish.Goals as goal

pub returns-then-is_made-clause-kept : goal.returns-then-is_made-clause-kept
returns-then-is_made-clause-kept g c = steps_keep c.run_until_idle.result c.args.engine.now.machine c.run_until_idle.new.engine.machine c.run_until_idle.ensures.works

pub returns-else-is_made-clause-later : goal.returns-else-is_made-clause-later
returns-else-is_made-clause-later g c = later_same g.D.Disk.faithful g.D.Disk.failures c.args.engine.now
