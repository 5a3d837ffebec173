use Rattle.std.proofs.Common.{arith}
use Rattle.hive_round_trip.proofs.WhyRefused.{memory_alone}
use Rattle.hive_round_trip.proofs.again.loaded_again.Goals as goal

pub returns-in-Ok-load-clause-same : goal.returns-in-Ok-load-clause-same
returns-in-Ok-load-clause-same c = c.one_tree.ensures.one c.in-Ok.emitted.image.bytes c.in-Ok.emitted.root 5 c.in-Ok-load.again c.args.tree.now c.in-Ok-load.ensures.stands (c.in-Ok.ensures.stands 5 (omega arith))

pub returns-clause-refused : goal.returns-clause-refused
returns-clause-refused c = λ within few. memory_alone c.in-Ok.emitted.image.bytes c.in-Ok.emitted.root 5 c.args.tree.now c.in-Err-load.why c.refusals_exclude_trees.ensures c.one_tree.ensures.fault (c.in-Ok.ensures.stands 5 (omega arith)) within c.in-Err-load.ensures.refused
