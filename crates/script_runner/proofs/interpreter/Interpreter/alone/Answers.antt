use Rattle.store_driver.proofs.Later.{later_same}
use Rattle.script_runner.proofs.interpreter.Interpreter.alone.Goals as goal

pub returns-in_err-operation_of-clause-later : goal.returns-in_err-operation_of-clause-later
returns-in_err-operation_of-clause-later g c = let D = g.D.Disk in later_same D.faithful D.failures c.args.self.now.engine
