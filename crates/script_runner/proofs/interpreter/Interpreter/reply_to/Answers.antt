use Rattle.store_driver.proofs.Later.{later_same}
use Rattle.script_runner.proofs.interpreter.Interpreter.reply_to.Goals as goal

pub returns-in-Err-NotUnderstood-clause-later : goal.returns-in-Err-NotUnderstood-clause-later
returns-in-Err-NotUnderstood-clause-later g c = let D = g.D.Disk in later_same D.faithful D.failures c.args.self.now.engine

pub returns-in-Err-NoMemory-clause-later : goal.returns-in-Err-NoMemory-clause-later
returns-in-Err-NoMemory-clause-later g c = let D = g.D.Disk in later_same D.faithful D.failures c.args.self.now.engine
