use Rattle.std.proofs.Common.{◌≡◌}
use Rattle.hive_file_reader.proofs.AnyWeight.{refused_within, too_heavy}
use Rattle.hive_file_reader.proofs.file.load_file.Goals as goal

pub returns-in-Err-clause-refused : goal.returns-in-Err-clause-refused
returns-in-Err-clause-refused c = refused_within c.args.hive c.args.file.items c.in-Err.why c.in-Err.ensures.refused

pub returns-in-Err-judge_weight-clause-refused : goal.returns-in-Err-judge_weight-clause-refused
returns-in-Err-judge_weight-clause-refused c =
    too_heavy c.args.hive c.args.file.items c.in-Ok.held.bins.items c.in-Ok.held.block c.in-Ok.held.tree c.in-Err-judge_weight.why c.in-Ok.ensures.has c.in-Ok.ensures.tree.0 c.in-Err-judge_weight.ensures

pub returns-in-Ok-judge_weight-clause-tree : goal.returns-in-Ok-judge_weight-clause-tree
returns-in-Ok-judge_weight-clause-tree c = (c.in-Ok.ensures.tree.0, record { light = c.in-Ok-judge_weight.ensures; shallow = c.in-Ok.ensures.tree.1 })
