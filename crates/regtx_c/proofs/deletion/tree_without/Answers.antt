-- The rows that are left of the root's node are those of the tree that is made.
use Rattle.std.proofs.Common.{◌∷◌, sym, ap, ◌∙◌, subst}
use Rattle.std.proofs.lemmas.Result.{IfOk-weaker}
use Rattle.reg_names.specs.Names.{folded, folded_path}
use Rattle.reg_tree.specs.Maps.{TreeMap, is_there, row}
use Rattle.reg_tree.specs.Encodable.{IsEncodable}
use Rattle.regtx_c.specs.Deletions.{row_without}
use Rattle.regtx_c.proofs.Deletions.{encodable_left, row_there, rows_left}
use Rattle.regtx_c.proofs.deletion.tree_without.Goals as goal

pub without-requires : goal.without-requires
without-requires c =
    let path = folded c.args.name.now ∷ folded_path c.args.further.now in
    record { there = row_there c.root.result.now c.root.ensures.node path (ap (λ (tree : TreeMap). is_there tree path) (sym c.root.ensures.same) ∙ c.requires.there) }

pub from_root-requires : goal.from_root-requires
from_root-requires c =
    let path = folded c.args.name.now ∷ folded_path c.args.further.now in
    let new = c.in_ok-root in
    encodable_left c.root.result.now new.root path c.args.moment c.root.ensures.node new.ensures.node new.ensures.rows (subst IsEncodable c.root.ensures.same c.root.ensures.encodable)

pub returns : goal.returns
returns c =
    let path = folded c.args.name.now ∷ folded_path c.args.further.now in
    let new = c.in_ok-root in
    let left = rows_left c.root.result.now new.root path c.args.moment c.root.ensures.node new.ensures.node new.ensures.rows in
    IfOk-weaker c.from_root.result _ _ (λ made same q. ap (λ (tree : TreeMap). row tree q) same ∙ left q ∙ ap (λ (tree : TreeMap). row_without path c.args.moment q (row tree q)) (sym c.root.ensures.same)) c.from_root.ensures
