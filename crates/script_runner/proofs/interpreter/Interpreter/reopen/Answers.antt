use Rattle.std.proofs.Common.{ap}
use Rattle.script_runner.specs.Scripts.{Script}
use Rattle.script_runner.proofs.Begun.{begun}
use Rattle.script_runner.proofs.interpreter.Interpreter.reopen.Goals as goal

pub returns-clause-script : goal.returns-clause-script
returns-clause-script g c = ap (λ (script : Script). record script { moment = c.args.self.now.moment }) (begun c.args.engine.machine c.new.result c.new.ensures)
