use Rattle.std.proofs.Common.{sym, subst}
use Rattle.reg_tree.specs.Encodable.{IsRooted}
use Rattle.reg_tree.proofs.Rows.{tree_is}
use Rattle.reg_tree.proofs.tree.Tree.from_root.Goals as goal

pub invariant_of-result : goal.invariant_of-result
invariant_of-result c =
    let node = c.key.ensures.node in
    subst IsRooted (sym c.in_ok-root.ensures.ok) (record { node = node; tree = tree_is _ node; encodable = c.requires })
