use Rattle.script_runner.proofs.Naming.{same_names, none_there}
use Rattle.script_runner.specs.Labels.{label_entry}
use Rattle.script_runner.proofs.labels.Labels.make_room.Goals as goal

pub returns-in_ok-insert-clause-same : goal.returns-in_ok-insert-clause-same
returns-in_ok-insert-clause-same c =
    same_names c.args.self.now (record { named = c.insert.new.self }) c.bytes-label.result c.in_ok-insert.ensures.updates
    (none_there c.contains_key.result (label_entry c.args.self.now.named c.bytes-label.result) c.contains_key.ensures c.if-not-contains_key.true)
