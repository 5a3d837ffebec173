use Rattle.std.proofs.Common.{subst, inr}
use Rattle.base_block.specs.Judgements.{PrimaryRefused}
use Rattle.base_block.specs.declared.block.BaseBlock.{BaseBlock}
use Rattle.hive_recovery.specs.Plans.{seen}
use Rattle.hive_recovery.proofs.planning.plan.Goals as goal

pub returns-clause-refused : goal.returns-clause-refused
returns-clause-refused c =
    let Refused : BaseBlock → Type 0 = λ block. PrimaryRefused block c.in-Err-judge_primary.why in
    inr (seen c.in-Ok.chosen, c.in-Ok.ensures.chosen, subst Refused c.read.ensures c.in-Err-judge_primary.ensures.why)
