-- How a change of a store ends.
use Rattle.std.proofs.Common.{◌≡◌, inl, inr, ℕ, List, [], ◌∷◌, Result, Ok, Err, IfOk, IfErr, refl, sym, ◌∙◌, ap, subst}
use Rattle.refusals.specs.declared.refusal.Refusal.{Refusal}
use Rattle.reg_tree.specs.Maps.{TreeMap}
use Rattle.reg_tree.specs.declared.op.Op.{Op}
use Rattle.store_model.specs.Machine.{Machine, named_trees, outcome_bytes}
use Rattle.store_model.specs.Invariant.{AreLegalChanges}
use Rattle.change_plan.specs.declared.edit.Edit.{Edit}
use Rattle.change_plan.specs.Plans.{Planned}
use Rattle.change_plan.proofs.LegalPlans.{IsLegalPlan, edit_on, fresh_plan}
use Rattle.store_change.specs.Commits.{Commits, FailsToCommit}
use Rattle.store_change.specs.Reports.{AllOrNothing}
use Rattle.store_values.specs.declared.change.Change.{Change}
use Rattle.store_values.specs.Changes.{ChangeIsPlanned, TakesEdits, edits_of, first_plan}
use Rattle.store_values.specs.Outcomes.{AsksPlanned, EndsChange}

edits_on : (trees : List TreeMap) (old new : Planned) (edits : List Edit) → IsLegalPlan trees old → TakesEdits old edits new → IsLegalPlan trees new
edits_on trees old new [] is takes = subst (IsLegalPlan trees) (sym takes) is
edits_on trees old new (its ∷ edits) is takes = edits_on trees takes.0 new edits (edit_on trees old its takes.0 is takes.1) takes.2

same_moment : (old new : Planned) (edits : List Edit) → TakesEdits old edits new → new.moment ≡ old.moment
same_moment old new [] takes = ap (λ (plan : Planned). plan.moment) takes
same_moment old new (its ∷ edits) takes = same_moment takes.0 new edits takes.2 ∙ takes.1.moment

-- the operations of a change that was planned are legal, one after another
pub planned_legal : (trees : List TreeMap) (aside moment : ℕ) (change : Change) (plan : Planned) → ChangeIsPlanned trees aside moment change plan → AreLegalChanges trees plan.ops moment
planned_legal trees aside moment change plan is =
    let legal = edits_on trees (first_plan trees aside moment) plan (edits_of change) (fresh_plan trees moment aside) is.taken in
    subst (AreLegalChanges trees plan.ops) (same_moment (first_plan trees aside moment) plan (edits_of change) is.taken) legal.legal

-- however it ends, all was accepted or nothing
pub all_or_nothing : (moment : ℕ) (change : Change) (old new : Machine) (outcome : Result ℕ Refusal) → EndsChange moment change old outcome new → AllOrNothing (AsksPlanned moment change) moment old new
all_or_nothing moment change old new (Ok number) ends = inr (ends.1, ends.0.ops, (ends.0, ends.2, refl), ends.3.accepts)
all_or_nothing moment change old new (Err why) (inl denied) = inl denied.0
all_or_nothing moment change old new (Err why) (inr failed) = by_case failed.3
  where
    by_case : FailsToCommit old failed.1 moment failed.0.ops why new → AllOrNothing (AsksPlanned moment change) moment old new
    by_case (inl none) = inl none.0
    by_case (inr accepts) = inr (failed.1, failed.0.ops, (failed.0, failed.2, refl), accepts.0)

-- how the commit of a change that was planned ends
pub commit_ends : (id : List ℕ) (moment : ℕ) (change : Change) (old new : Machine) (plan : Planned) (ops : List Op) (outcome : Result ℕ Refusal) → ChangeIsPlanned (named_trees old) (outcome_bytes old) moment change plan → ops ≡ plan.ops → IfOk outcome (λ number. Commits old id moment ops number new) → IfErr outcome (λ why. FailsToCommit old id moment ops why new) → EndsChange moment change old outcome new
commit_ends id moment change old new plan ops (Ok number) is same commits fails = (plan, id, is, subst (λ (os : List Op). Commits old id moment os number new) same commits)
commit_ends id moment change old new plan ops (Err why) is same commits fails = inr (plan, id, is, subst (λ (os : List Op). FailsToCommit old id moment os why new) same fails)
