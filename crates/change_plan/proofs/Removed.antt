-- A removal from an extension without operations on.
use Rattle.std.proofs.Common.{◌≡◌, ℕ, List, [], ◌++◌, sym, ◌∙◌, ap, subst}
use Rattle.std.specs.List.{All}
use Rattle.reg_tree.specs.Maps.{TreeMap}
use Rattle.reg_tree.specs.Judgement.{applied}
use Rattle.reg_tree.specs.declared.op.Op.{Op}
use Rattle.store_model.specs.Invariant.{AreLegalChanges}
use Rattle.change_plan.specs.declared.extension.Extension.{Extension}
use Rattle.change_plan.specs.Edits.{DeletesBelow, RemovesKey}
use Rattle.change_plan.specs.Removals.{DeletesMore, IsGone}

pub removes : (first last : Extension) (view : List TreeMap) (moment hive : ℕ) (path : List (List ℕ)) → first.view ≡ view → first.ops.items ≡ [] → DeletesMore first moment hive path last → IsGone last.view hive path
    → RemovesKey view moment hive path last.ops.items × (last.view ≡ applied view last.ops.items moment)
removes first last view moment hive path same none more gone =
    let ops : last.ops.items ≡ more.more = more.ops ∙ ap (λ (ops : List Op). ops ++ more.more) none in
    let made : last.view ≡ applied view last.ops.items moment = more.view ∙ (λ i. applied (same i) (sym ops i) moment) in (
      record {
        legal = subst (λ (ops : List Op). AreLegalChanges view ops moment) (sym ops) (subst (λ trees. AreLegalChanges trees more.more moment) same more.legal);
        below = subst (All (DeletesBelow hive path)) (sym ops) more.below;
        gone = subst (λ trees. IsGone trees hive path) made gone;
      },
      made,
    )
