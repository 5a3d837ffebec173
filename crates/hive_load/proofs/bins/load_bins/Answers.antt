use Rattle.std.proofs.Common.{◌≡◌, inl, inr}
use Rattle.hive_load.proofs.Ends.{refused_too, too_heavy}
use Rattle.hive_load.proofs.bins.load_bins.Goals as goal

pub returns-in-Err-clause-refused : goal.returns-in-Err-clause-refused
returns-in-Err-clause-refused c = elim c.in-Err.ensures.refused [
  | inl untiled ↦ inl untiled
  | inr refused ↦ inr (refused_too c.args.bins.items c.args.root c.args.minor c.in-Err.why refused)
]

pub returns-in-Err-judge_weight-clause-refused : goal.returns-in-Err-judge_weight-clause-refused
returns-in-Err-judge_weight-clause-refused c =
    inr (too_heavy c.args.bins.items c.args.root c.args.minor c.in-Ok.loaded.0 c.in-Err-judge_weight.why c.in-Ok.ensures.stands.0 c.in-Err-judge_weight.ensures)

pub returns-in-Ok-judge_weight-clause-stands : goal.returns-in-Ok-judge_weight-clause-stands
returns-in-Ok-judge_weight-clause-stands c = (c.in-Ok.ensures.stands.0, record { light = c.in-Ok-judge_weight.ensures; shallow = c.in-Ok.ensures.stands.1 })
