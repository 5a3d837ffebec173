use Rattle.std.proofs.Common.{◌≡◌, Result, Ok, IfOk, subst}
use Rattle.refusals.specs.declared.refusal.Refusal.{Refusal}
use Rattle.hive_recovery.specs.Plans.{PlanSeen, seen, plan_by_block}
use Rattle.hive_recovery.proofs.Planned.{plan_long, not_chosen}
use Rattle.hive_recovery.proofs.planning.choose.Goals as goal

pub returns-clause-chosen : goal.returns-clause-chosen
returns-clause-chosen c =
    let same = plan_long c.args.file.now c.args.limits c.args.logs.now c.in-Some.sector c.read-block.result c.in-Some.ensures.some.1 c.in-Some.ensures.some.0 c.read-block.ensures in
    let Chosen : Result PlanSeen Refusal → Type 0 = λ found. IfOk c.choose_by_block.result (λ plan. found ≡ Ok (seen plan)) in
    subst Chosen same c.choose_by_block.ensures.chosen

pub returns-clause-refused : goal.returns-clause-refused
returns-clause-refused c =
    let same = plan_long c.args.file.now c.args.limits c.args.logs.now c.in-Some.sector c.read-block.result c.in-Some.ensures.some.1 c.in-Some.ensures.some.0 c.read-block.ensures in
    not_chosen c.args.file.now c.args.limits c.args.logs.now c.choose_by_block.result (plan_by_block c.in-Some.sector c.read-block.result c.args.limits c.args.logs.now) same c.choose_by_block.ensures.refused
