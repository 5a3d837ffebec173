use Rattle.script_runner.proofs.Naming.{names}
use Rattle.script_runner.proofs.labels.Labels.name.Goals as goal

pub returns : goal.returns
returns c = names c.args.self.now (record { named = c.insert.new.self }) c.bytes.result c.args.label c.args.tx c.bytes.ensures c.in-Ok.ensures.updates
