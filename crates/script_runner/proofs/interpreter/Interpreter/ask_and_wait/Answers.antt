use Rattle.store_driver.proofs.Later.{later_on}
use Rattle.script_runner.proofs.interpreter.Interpreter.ask_and_wait.Goals as goal

pub returns-in-Ok-clause-later : goal.returns-in-Ok-clause-later
returns-in-Ok-clause-later g c = let D = g.D.Disk in later_on D.faithful D.failures c.args.self.now.engine c.event.new.self.engine c.wait.new.engine c.event.ensures.later c.wait.ensures.later

pub returns-in-Err-clause-later : goal.returns-in-Err-clause-later
returns-in-Err-clause-later g c = let D = g.D.Disk in later_on D.faithful D.failures c.args.self.now.engine c.event.new.self.engine c.wait.new.engine c.event.ensures.later c.wait.ensures.later
