-- What is found from the root's node on is a part of the tree.
use Rattle.std.proofs.Common.{◌≡◌, List, ◌++◌, ℕ, sym, ap, ◌∙◌, subst}
use Rattle.reg_names.specs.Names.{folded_path}
use Rattle.reg_tree_parts.specs.Nodes.{Entries, IsNode, row_at}
use Rattle.regtx_c.proofs.Parts.{not_there, part_there, is_part, part_encodable}
use Rattle.regtx_c.proofs.steps.part.Goals as goal

pub returns-in_default : goal.returns-in_default
returns-in_default c = not_there c.args.tree.now c.root.result.now c.root.ensures.same c.root.ensures.node (folded_path c.args.names.now) c.in_default.ensures.none

pub from_root-requires : goal.from_root-requires
from_root-requires c =
    let root = c.in_ok-root in
    part_encodable c.args.tree.now c.root.result.now c.root.ensures.same c.root.ensures.node (folded_path c.args.names.now) root.root (subst IsNode (sym root.ensures.same) root.ensures.node)
    (λ rest. c.in-Some.ensures.found rest ∙ ap (λ (es : Entries). row_at es rest) (sym root.ensures.same)) c.root.ensures.encodable

pub returns : goal.returns
returns c =
    let path = folded_path c.args.names.now in
    let root = c.in_ok-root in
    let own = subst IsNode (sym root.ensures.same) root.ensures.node in
    let found : (rest : List (List ℕ)) → row_at c.root.result.now (path ++ rest) ≡ row_at root.root rest = λ rest. c.in-Some.ensures.found rest ∙ ap (λ (es : Entries). row_at es rest) (sym root.ensures.same) in (
      part_there c.args.tree.now c.root.result.now c.root.ensures.same c.root.ensures.node path root.root own found,
      is_part c.args.tree.now c.root.result.now c.root.ensures.same c.root.ensures.node path root.root own found c.in_ok-part.part c.in_ok-part.ensures,
    )
