use Rattle.std.proofs.Common.{◌≡◌, List, ℕ, Ok, IfSome, MatchOption, subst, sym, ◌∙◌, ap}
use Rattle.reg_tree_parts.specs.Nodes.{row_at, IsNode}
use Rattle.reg_tree.specs.Encodable.{IsEncodable, IsRooted}
use Rattle.reg_tree.specs.Operations.{row_after, tree_after}
use Rattle.std.specs.FinMap as finite
use Rattle.reg_tree.specs.TreeLists.{levels_of}
use Rattle.reg_tree.specs.Judgement.{judged, changed, changed_if}
use Rattle.reg_tree.specs.declared.op.Legality.TheVariants.{Legal, Opened}
use Rattle.reg_tree.proofs.Rows.{tree_is}
use Rattle.reg_tree.proofs.TreesAfter.{made_is}
use Rattle.reg_tree.proofs.Spelling.{encodable_after}
use Rattle.reg_tree.proofs.tree.Tree.carry_out.Goals as goal

pub invariant_of-result : goal.invariant_of-result
invariant_of-result c =
    let self = c.args.self.now in
    let op = c.args.op.now in
    let node = subst (λ o. IfSome o (λ it. IsNode it.0)) c.in-Some.is c.in_ok-root_after.ensures.node in
    let rows = subst (λ o. IfSome o (λ it. (q : List (List ℕ)) → row_at it.0 q ≡ row_after self op c.args.moment q)) c.in-Some.is c.in_ok-root_after.ensures.rows in
    let made = made_is self c.in-Some.root node op c.args.moment rows in
    let encodable = encodable_after self (subst IsEncodable c.self.view_is c.self.invariant.encodable) op c.in_ok-root_after.ensures.named c.args.moment in
    subst IsRooted (sym c.in_ok-root-in-Some.ensures.ok) (record { node = node; tree = tree_is _ node; encodable = subst IsEncodable (sym made) encodable })

pub returns-in_ok-root-in-Some-clause-ok : goal.returns-in_ok-root-in-Some-clause-ok
returns-in_ok-root-in-Some-clause-ok c =
    let self = c.args.self.now in
    let op = c.args.op.now in
    let node = subst (λ o. IfSome o (λ it. IsNode it.0)) c.in-Some.is c.in_ok-root_after.ensures.node in
    let rows = subst (λ o. IfSome o (λ it. (q : List (List ℕ)) → row_at it.0 q ≡ row_after self op c.args.moment q)) c.in-Some.is c.in_ok-root_after.ensures.rows in
    let may = subst (λ o. MatchOption o (judged self op ≡ Ok Opened) (λ made. judged self op ≡ Ok Legal)) c.in-Some.is c.in_ok-root_after.ensures.judged in
    let made = made_is self c.in-Some.root node op c.args.moment rows in
    let levels = subst (λ o. IfSome o (λ it. it.1 ≡ levels_of self op)) c.in-Some.is c.in_ok-root_after.ensures.levels in
    let tree : finite.from_sorted c.in-Some.root ≡ changed self op c.args.moment = made ∙ ap (λ j. changed_if j (tree_after self op c.args.moment) self) (sym may) in
    (may, rw c.in_ok-root-in-Some.ensures.ok (λ i. (tree i, levels i)))
