use Rattle.std.proofs.Common.{◌≡◌}
use Rattle.hive_load.proofs.Ends.{refused_too, too_heavy}
use Rattle.hive_load.proofs.tree.load.Goals as goal

pub returns-in-Err-clause-refused : goal.returns-in-Err-clause-refused
returns-in-Err-clause-refused c = refused_too c.args.image.now.bytes c.args.root c.args.minor c.in-Err.refusal c.in-Err.ensures.refused

pub returns-in-Err-judge_weight-clause-refused : goal.returns-in-Err-judge_weight-clause-refused
returns-in-Err-judge_weight-clause-refused c =
    too_heavy c.args.image.now.bytes c.args.root c.args.minor c.in-Ok.tree c.in-Err-judge_weight.refusal c.in-Ok.ensures.stands c.in-Err-judge_weight.ensures

pub returns-in-Ok-judge_weight-clause-within : goal.returns-in-Ok-judge_weight-clause-within
returns-in-Ok-judge_weight-clause-within c = record { light = c.in-Ok-judge_weight.ensures; shallow = c.in-Ok.ensures.shallow }
