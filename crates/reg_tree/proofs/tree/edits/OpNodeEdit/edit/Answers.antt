use Rattle.std.proofs.Common.{◌≡◌, Ok, subst}
use Rattle.reg_tree_parts.specs.ValueEdits.{values_with, values_without}
use Rattle.reg_tree.specs.Edits.{judged_found, judged_value, IsRewritten}
use Rattle.reg_tree.specs.declared.op.Legality.TheVariants.{Legal}
use Rattle.reg_tree.proofs.tree.edits.OpNodeEdit.edit.Goals as goal

pub returns-in_ok-new-in-SetValue-clause-made : goal.returns-in_ok-new-in-SetValue-clause-made
returns-in_ok-new-in-SetValue-clause-made c =
    let new = c.in_ok-new-in-SetValue in
    rw c.in-SetValue.is (new.ensures.legal, subst (λ n. IsRewritten c.args.node.now (λ row. record row { values = values_with row.values n c.in-SetValue.kind c.in-SetValue.«data» }) c.args.moment new.new) c.name.ensures.same new.ensures.edits)

pub returns-in_ok-new-in-DeleteValue-clause-made :
    goal.returns-in_ok-new-in-DeleteValue-clause-made
returns-in_ok-new-in-DeleteValue-clause-made c =
    let new = c.in_ok-new-in-DeleteValue in
    let same = c.name-in-DeleteValue.ensures.same in
    rw c.in-DeleteValue.is (
      subst (λ n. judged_found c.args.missing.now (judged_value c.args.node.now n) ≡ Ok Legal) same new.ensures.legal,
      subst (λ n. IsRewritten c.args.node.now (λ row. record row { values = values_without row.values n }) c.args.moment new.new) same new.ensures.edits,
    )
