use Rattle.script_runner.proofs.Begun.{begun}
use Rattle.script_runner.proofs.interpreter.Interpreter.new.Goals as goal

pub returns-clause-script : goal.returns-clause-script
returns-clause-script g c = begun c.args.engine.machine c.new.result c.new.ensures
