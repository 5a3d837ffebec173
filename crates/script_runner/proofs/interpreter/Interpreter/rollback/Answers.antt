use Rattle.store_driver.proofs.Later.{later_same}
use Rattle.script_runner.proofs.interpreter.Interpreter.rollback.Goals as goal

pub returns-in_err-tx-clause-later : goal.returns-in_err-tx-clause-later
returns-in_err-tx-clause-later g c = let D = g.D.Disk in later_same D.faithful D.failures c.args.self.now.engine
