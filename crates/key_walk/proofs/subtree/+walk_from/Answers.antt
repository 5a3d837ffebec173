use Rattle.std.proofs.Common.{◌≡◌, ◌∷◌, ◌++◌, [], List, ℕ, sym, ap, subst, ◌∙◌}
use Rattle.reg_names.specs.Names.{folded, folded_path}
use Rattle.reg_tree_parts.specs.Nodes.{Entries, entries_of, all_below, row_at, subkeys_of}
use Rattle.key_walk.specs.KeyPaths.{names_on}
use Rattle.key_walk.specs.KeyRows.{NamedRow, name_of_row}
use Rattle.key_walk.specs.SubtreeRows.{rows_from}
use Rattle.key_walk.proofs.Rows.{on_ok}
use Rattle.key_walk.proofs.Subtrees.{empty_path, here_rows, step_rows, no_rows, is_found, not_found}
use Rattle.key_walk.proofs.subtree.+walk_from.Goals as goal

pub returns-in_default-clause-taken : goal.returns-in_default-clause-taken
returns-in_default-clause-taken g t c =
    let names = names_on c.args.way.now in
    subst (λ (rows : List NamedRow). g.S.KeySink.Took c.args.sink.now c.walk_node.new.sink rows)
    (here_rows names c.args.node.now ∙ ap (λ path. rows_from names c.args.node.now (folded_path path)) (sym (empty_path c.args.path.now c.in_default.ensures.cases))) c.in_ok-walk_node.ensures

pub returns-in_default-child-clause-taken : goal.returns-in_default-child-clause-taken
returns-in_default-child-clause-taken g t c =
    let names = names_on c.args.way.now in
    let has = c.subkey_count.ensures.has in
    let subkeys = subkeys_of c.args.node.now in
    let row = c.key.result.now in
    let whole : c.args.node.now ≡ entries_of row subkeys = has.whole row c.key.ensures.here in
    let n = folded c.in-Some.name.now in
    let rest = folded_path c.in-Some.rest.now in
    subst (λ (rows : List NamedRow). g.S.KeySink.Took c.args.sink.now c.args.sink.now rows)
    (sym (ap (λ path. rows_from names c.args.node.now (folded_path path)) c.in-Some.ensures.cases.0 ∙ ap (λ (entries : Entries). rows_from names entries (n ∷ rest)) whole
    ∙ no_rows names row subkeys n rest has.rises (not_found n subkeys has.nodes has.rises (λ q. ap (λ (entries : Entries). row_at entries (n ∷ q)) (sym whole) ∙ c.in_default-child.ensures.none q))))
    (g.met.S.KeySink.took_none c.args.sink.now)

pub returns-clause-taken : goal.returns-clause-taken
returns-clause-taken g t c = on_ok c.walk_from.result (λ taken.
    let names = names_on c.args.way.now in
    let has = c.subkey_count.ensures.has in
    let subkeys = subkeys_of c.args.node.now in
    let row = c.key.result.now in
    let child = c.in-Some-child.subkey.now in
    let whole : c.args.node.now ≡ entries_of row subkeys = has.whole row c.key.ensures.here in
    let n = folded c.in-Some.name.now in
    let rest = folded_path c.in-Some.rest.now in
    let same : (q : List (List ℕ)) → row_at (all_below subkeys) (n ∷ q) ≡ row_at child q = λ q. ap (λ (entries : Entries). row_at entries (n ∷ q)) (sym whole) ∙ c.in-Some-child.ensures.found q in
    subst (λ (rows : List NamedRow). g.S.KeySink.Took c.args.sink.now c.walk_from.new.sink rows)
    (ap (λ (name : List ℕ). rows_from (names ++ name ∷ []) child rest) c.name.ensures ∙ ap (λ r. rows_from (names ++ name_of_row r ∷ []) child rest) (sym c.key-2.ensures.here)
    ∙ sym (step_rows names row subkeys n rest child has.rises (is_found n subkeys has.nodes has.rises child c.key-2.ensures.node same) same)
    ∙ ap (λ (entries : Entries). rows_from names entries (n ∷ rest)) (sym whole) ∙ ap (λ path. rows_from names c.args.node.now (folded_path path)) (sym c.in-Some.ensures.cases.0))
    taken) c.walk_from.ensures.taken
