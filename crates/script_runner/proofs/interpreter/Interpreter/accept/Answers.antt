use Rattle.store_driver.proofs.Later.{later_same}
use Rattle.script_runner.proofs.interpreter.Interpreter.accept.Goals as goal

pub returns-in-Err-clause-later : goal.returns-in-Err-clause-later
returns-in-Err-clause-later g c = let D = g.D.Disk in later_same D.faithful D.failures c.args.self.now.engine
