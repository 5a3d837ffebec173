-- The operations of a plan are legal, one after another.
use Rattle.std.proofs.Common.{◌≡◌, ℕ, List, [], ◌++◌, refl, sym, ◌∙◌, ap, subst, inl, inr}
use Rattle.reg_tree.specs.Maps.{TreeMap}
use Rattle.reg_tree.specs.Judgement.{applied}
use Rattle.reg_tree.specs.declared.op.Op.{Op}
use Rattle.store_model.specs.Invariant.{AreLegalChanges}
use Rattle.change_plan.specs.declared.edit.Edit.{Edit}
use Rattle.change_plan.specs.declared.edit.Edit.TheVariants.{Operation, WriteValue, RemoveValue, RemoveKey}
use Rattle.change_plan.specs.Edits.{EditAsks, OperationAsks}
use Rattle.change_plan.specs.Plans.{Planned, TakesEdit}
use Rattle.change_plan.proofs.Sequences.{applied_on, legal_on}

-- the operations of a plan are legal on the first trees, and lead to its trees
pub record IsLegalPlan (trees : List TreeMap) (plan : Planned) : Type 0 where
  pub legal : AreLegalChanges trees plan.ops plan.moment
  pub view : plan.view ≡ applied trees plan.ops plan.moment

operation_legal : (trees : List TreeMap) (moment : ℕ) (op : Op) (ops : List Op) → OperationAsks trees op ops → AreLegalChanges trees ops moment
operation_legal trees moment op ops (inl one) = subst (λ (os : List Op). AreLegalChanges trees os moment) (sym one.1) (one.0, tt)
operation_legal trees moment op ops (inr none) = subst (λ (os : List Op). AreLegalChanges trees os moment) (sym none.1) tt

edit_legal : (trees : List TreeMap) (moment : ℕ) (its : Edit) (ops : List Op) → EditAsks trees moment its ops → AreLegalChanges trees ops moment
edit_legal trees moment (Operation op) ops asks = operation_legal trees moment op ops asks
edit_legal trees moment (WriteValue hive path name kind bytes) ops (inl there) = subst (λ (os : List Op). AreLegalChanges trees os moment) (sym there.1) tt
edit_legal trees moment (WriteValue hive path name kind bytes) ops (inr other) = operation_legal trees moment _ ops other.1
edit_legal trees moment (RemoveValue hive path name) ops (inl none) = subst (λ (os : List Op). AreLegalChanges trees os moment) (sym none.1) tt
edit_legal trees moment (RemoveValue hive path name) ops (inr there) = operation_legal trees moment _ ops there.1
edit_legal trees moment (RemoveKey hive path) ops removes = removes.legal

pub fresh_plan : (trees : List TreeMap) (moment aside : ℕ) → IsLegalPlan trees (record { view = trees; ops = []; moment = moment; aside = aside })
fresh_plan trees moment aside = record { legal = tt; view = refl }

-- one edit more is taken
pub edit_on : (trees : List TreeMap) (old : Planned) (its : Edit) (new : Planned) → IsLegalPlan trees old → TakesEdit old its new → IsLegalPlan trees new
edit_on trees old its new is takes =
    let more : AreLegalChanges (applied trees old.ops old.moment) takes.more old.moment = subst (λ (ts : List TreeMap). AreLegalChanges ts takes.more old.moment) is.view (edit_legal old.view old.moment its takes.more takes.asked) in
    record {
      legal = subst (λ (os : List Op). AreLegalChanges trees os new.moment) (sym takes.ops) (subst (AreLegalChanges trees (old.ops ++ takes.more)) (sym takes.moment) (legal_on trees old.ops takes.more old.moment is.legal more));
      view = takes.view ∙ ap (λ (ts : List TreeMap). applied ts takes.more old.moment) is.view ∙ sym (applied_on trees old.ops takes.more old.moment) ∙ (λ i. applied trees (sym takes.ops i) (sym takes.moment i));
    }
