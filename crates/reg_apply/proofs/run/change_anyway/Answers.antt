use Rattle.std.proofs.Common.{rules, inr, ◌≡◌, [], None, List, sym, ◌∙◌, ap, subst}
use Rattle.reg_tree.specs.Maps.{TreeMap}
use Rattle.reg_tree.specs.declared.op.Op.{Op}
use Rattle.store_model.specs.Invariant.{AreLegalChanges}
use Rattle.store_driver.proofs.Later.{later_same}
use Rattle.change_plan.specs.Plans.{Planned}
use Rattle.change_plan.proofs.LegalPlans.{IsLegalPlan, fresh_plan}
use Rattle.store_change.specs.Commits.{FailsToCommit}
use Rattle.store_model.specs.Machine.{named_trees}
use Rattle.reg_apply.specs.Applied.{TakesAll}
use Rattle.reg_apply.proofs.LegalPlans.{same_moment, statements_on}
use Rattle.reg_apply.proofs.run.change_anyway.Goals as goal

pub returns-in_default-clause-later : goal.returns-in_default-clause-later
returns-in_default-clause-later g c = later_same g.D.Disk.faithful g.D.Disk.failures c.args.engine.now

pub returns-in-Err-clause-later : goal.returns-in-Err-clause-later
returns-in-Err-clause-later g c = later_same g.D.Disk.faithful g.D.Disk.failures c.args.engine.now

pub returns-in-Some-clause-later : goal.returns-in-Some-clause-later
returns-in-Some-clause-later g c = later_same g.D.Disk.faithful g.D.Disk.failures c.args.engine.now

pub commit-requires-clause-are_legal : goal.commit-requires-clause-are_legal
commit-requires-clause-are_legal g c =
    let trees = named_trees c.args.engine.now.machine in
    let prefixes = c.args.request.now.prefixes.now in
    let moment = c.args.request.now.moment in
    let taken = c.in_default-take_all.ensures.taken in
    let seen : c.in-Ok.trees ≡ trees = c.in-Ok.ensures in
    let fresh : IsLegalPlan trees c.new-plan.result = subst (IsLegalPlan trees) (sym (c.new-plan.ensures ∙ ap (λ (ts : List TreeMap). record { view = ts; ops = []; moment = moment; aside = c.bytes_aside.result }) seen)) (fresh_plan trees moment c.bytes_aside.result) in
    let plan = statements_on trees prefixes c.len-hives.result None c.new-plan.result c.into_vec.result.items taken.0 c.take_all.new.plan fresh taken.1 in
    let same : c.take_all.new.plan.moment ≡ moment = same_moment prefixes c.len-hives.result None c.new-plan.result c.into_vec.result.items taken.0 c.take_all.new.plan taken.1 ∙ ap (λ (p : Planned). p.moment) c.new-plan.ensures in
    subst (λ (ops : List Op). AreLegalChanges trees ops moment) (sym c.into_ops.ensures) (subst (AreLegalChanges trees c.take_all.new.plan.ops) same plan.legal)

pub returns-in-Err-commit-clause-ends : goal.returns-in-Err-commit-clause-ends
returns-in-Err-commit-clause-ends g c =
    let old = c.args.engine.now.machine in
    let moment = c.args.request.now.moment in
    let none : c.args.file.fault ≡ None = search rules in
    let takes : TakesAll c.args.request.now.prefixes.now moment c.args.file old c.take_all.new.plan = search rules in
    inr (c.take_all.new.plan, none, takes, c.unit_of_work-id.result, c.unit_of_work-id.ensures, subst (λ (ops : List Op). FailsToCommit old c.unit_of_work-id.result moment ops c.in-Err-commit.refusal c.commit.new.engine.machine) c.into_ops.ensures c.in-Err-commit.ensures.refused)
