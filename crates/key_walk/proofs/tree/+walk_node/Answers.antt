use Rattle.std.proofs.Common.{List, ℕ, ◌≡◌, ◌++◌, ◌∷◌, [], take, arith, sym, ap, subst, ◌∙◌, take_all}
use Rattle.std.specs.List.{flat_map}
use Rattle.reg_tree_parts.specs.Nodes.{subkeys_of}
use Rattle.key_walk.specs.KeyPaths.{names_on}
use Rattle.key_walk.specs.KeyRows.{NamedRow, node_rows, subkey_rows}
use Rattle.key_walk.proofs.Rows.{next_subkey, node_walk}
use Rattle.key_walk.proofs.tree.+walk_node.Goals as goal

pub loop-index-preserved : goal.loop-index-preserved
loop-index-preserved g t c =
    let names = names_on c.args.path.now in
    let name : c.name.result.now ≡ c.key-in-loop-index.result.now.name = c.name.ensures in
    subst (λ (rows : List NamedRow). g.S.KeySink.Took c.take.new.self c.walk_node.new.sink rows)
    (next_subkey names (subkeys_of c.args.node.now) c.loop-index.index c.in-Some.subkey.now c.key-in-loop-index.result.now c.in-Some.ensures.at c.key-in-loop-index.ensures.here)
    (g.met.S.KeySink.took_more _ _ _ _ _ c.loop-index.invariant (subst (λ (n : List ℕ). g.S.KeySink.Took c.loop-index.sink c.walk_node.new.sink (node_rows (names ++ n ∷ []) c.in-Some.subkey.now)) name c.in_ok-walk_node.ensures))

pub returns : goal.returns
returns g t c =
    let names = names_on c.args.path.now in
    let subkey_list = subkeys_of c.args.node.now in
    let has = c.subkey_count-index-end.ensures.has in
    let all : take c.loop-index.index subkey_list ≡ subkey_list = take_all c.loop-index.index subkey_list (omega (arith, c.loop-index-test.false, c.subkey_count-index-end.ensures.subkeys)) in
    subst (λ (rows : List NamedRow). g.S.KeySink.Took c.args.sink.now c.loop-index.sink rows)
    (ap (λ ks. (names, c.key.result.now) ∷ flat_map (subkey_rows names) ks) all ∙ sym (node_walk names c.key.result.now subkey_list has.rises) ∙ ap (node_rows names) (sym (has.whole c.key.result.now c.key.ensures.here)))
    (g.met.S.KeySink.took_more _ _ _ _ _ c.in_ok-take.ensures c.loop-index.invariant)
