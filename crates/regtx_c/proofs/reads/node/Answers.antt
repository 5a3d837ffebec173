-- What is found from the root's node on is what the tree has.
use Rattle.std.proofs.Common.{[], append-nil, sym, ◌∙◌, ap}
use Rattle.reg_names.specs.Names.{folded_path}
use Rattle.reg_tree_parts.specs.Nodes.{row_at}
use Rattle.reg_tree.specs.Maps.{TreeMap, row, subkeys}
use Rattle.reg_tree.proofs.Rows.{row_is, subkeys_are}
use Rattle.regtx_c.proofs.reads.node.Goals as goal

pub returns-in-Some-clause-key : goal.returns-in-Some-clause-key
returns-in-Some-clause-key c =
    let path = folded_path c.args.names.now in
    let root = c.root.result.now in
    ap (λ (t : TreeMap). row t path) c.root.ensures.same ∙ row_is root c.root.ensures.node path ∙ ap (row_at root) (sym (append-nil path)) ∙ c.in-Some.ensures.found []

pub returns-in-Some-clause-names : goal.returns-in-Some-clause-names
returns-in-Some-clause-names c =
    let path = folded_path c.args.names.now in
    ap (λ (t : TreeMap). subkeys t path) c.root.ensures.same ∙ subkeys_are c.root.result.now c.root.ensures.node path ∙ c.in-Some.ensures.names

pub returns-in-None-clause-missing : goal.returns-in-None-clause-missing
returns-in-None-clause-missing c =
    let path = folded_path c.args.names.now in
    let root = c.root.result.now in
    ap (λ (t : TreeMap). row t path) c.root.ensures.same ∙ row_is root c.root.ensures.node path ∙ ap (row_at root) (sym (append-nil path)) ∙ c.in-None.ensures.none []
