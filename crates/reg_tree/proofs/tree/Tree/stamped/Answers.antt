use Rattle.std.proofs.Common.{◌≡◌, List, ℕ, None, IfSome, IfNone, subst, sym, ◌∙◌, ap}
use Rattle.std.specs.FinMap as finite
use Rattle.reg_names.specs.Names.{folded_path}
use Rattle.reg_tree_parts.specs.Nodes.{row_at, IsNode}
use Rattle.reg_tree.specs.Maps.{row}
use Rattle.reg_tree.specs.Operations.{row_edited}
use Rattle.reg_tree.specs.Encodable.{IsEncodable, IsRooted}
use Rattle.reg_tree.proofs.Rows.{tree_is}
use Rattle.reg_tree.proofs.Stamps.{stamped_is, stamped_none, encodable_stamped}
use Rattle.reg_tree.proofs.tree.Tree.stamped.Goals as goal

pub invariant_of-result : goal.invariant_of-result
invariant_of-result c =
    let self = c.args.self.now in
    let path = folded_path c.args.names.now in
    let node = subst (λ o. IfSome o IsNode) c.in-Some.is c.in_ok-root.ensures.node in
    let rows = subst (λ o. IfSome o (λ root. (q : List (List ℕ)) → row_at root q ≡ row_edited (λ key. key) self path c.args.moment q)) c.in-Some.is c.in_ok-root.ensures.rows in
    let made = stamped_is self path c.args.moment c.in-Some.root node rows in
    let encodable = encodable_stamped self path c.args.moment (subst IsEncodable c.self.view_is c.self.invariant.encodable) in
    subst IsRooted (sym c.in_ok-root-in-Some.ensures.ok) (record { node = node; tree = tree_is _ node; encodable = subst IsEncodable (sym made) encodable })

pub returns-in_ok-root-in-Some : goal.returns-in_ok-root-in-Some
returns-in_ok-root-in-Some c =
    let self = c.args.self.now in
    let path = folded_path c.args.names.now in
    let node = subst (λ o. IfSome o IsNode) c.in-Some.is c.in_ok-root.ensures.node in
    let rows = subst (λ o. IfSome o (λ root. (q : List (List ℕ)) → row_at root q ≡ row_edited (λ key. key) self path c.args.moment q)) c.in-Some.is c.in_ok-root.ensures.rows in
    ap finite.from_sorted c.in_ok-root-in-Some.ensures.ok ∙ stamped_is self path c.args.moment c.in-Some.root node rows

pub returns-in-None : goal.returns-in-None
returns-in-None c =
    let self = c.args.self.now in
    let path = folded_path c.args.names.now in
    let none = subst (λ o. IfNone o (row self path ≡ None)) c.in-None.is c.in_ok-root.ensures.none in
    rw (stamped_none self path c.args.moment none) c.clone.ensures
