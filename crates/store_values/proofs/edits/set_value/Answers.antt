use Rattle.std.proofs.Common.{List, ℕ, inl, inr, subst}
use Rattle.reg_tree.specs.declared.op.Op.TheVariants.{CreateKey}
use Rattle.change_plan.specs.declared.edit.Edit.TheVariants.{Operation}
use Rattle.change_plan.specs.Plans.{TakesEdit}
use Rattle.change_plan.proofs.Answered.{if_err}
use Rattle.store_values.proofs.edits.set_value.Goals as goal

pub returns-clause-refused : goal.returns-clause-refused
returns-clause-refused c =
    let takes = subst (λ (path : List (List ℕ)). TakesEdit c.args.plan (Operation (CreateKey c.args.hive path)) c.in_ok-plan.plan) c.in_ok-clone.ensures c.in_ok-plan.ensures.taken in
    if_err c.taken.result (λ why not. inr (inr (c.in_ok-plan.plan, takes, inl not))) c.taken.ensures.refused
