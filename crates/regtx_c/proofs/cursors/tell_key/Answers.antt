-- What the key at the end of the way has is what the tree has at the place.
use Rattle.std.proofs.Common.{[], is_some, sym, ap, ◌∙◌}
use Rattle.std.specs.FinMap as finite
use Rattle.reg_tree_parts.specs.Nodes.{names_below}
use Rattle.regtx_c.specs.Places.{TreePlace, key_at}
use Rattle.regtx_c.specs.Ways.{end_of}
use Rattle.regtx_c.proofs.Ways.{key_there}
use Rattle.regtx_c.proofs.CursorAnswers.{tells_key}
use Rattle.regtx_c.proofs.cursors.tell_key.Goals as goal

pub returns-clause-key : goal.returns-clause-key
returns-clause-key c =
    let tree = c.block.inside.tree in
    let node = c.end-node.result.now in
    ap (λ (place : TreePlace). is_some (key_at place)) (sym c.block.view_is)
    ∙ ap is_some (key_there tree c.block.inside.way.items node c.key-key.result.now c.end-node.ensures.root c.block.invariant (c.end-node.ensures.end ∙ ap (end_of tree) c.deref.ensures.value) c.key-key.ensures.here)

pub returns-clause-told : goal.returns-clause-told
returns-clause-told c =
    let tree = c.block.inside.tree in
    let node = c.end-node.result.now in
    let key = c.key-key.result.now in
    tells_key (key_at c.args.block.now) key (names_below [] node)
    (ap key_at (sym c.block.view_is) ∙ key_there tree c.block.inside.way.items node key c.end-node.ensures.root c.block.invariant (c.end-node.ensures.end ∙ ap (end_of tree) c.deref.ensures.value) c.key-key.ensures.here)
    c.args.info.now c.subkey_count.result c.len.result c.time.result c.units.result.now c.args.name.now c.copy.new.into c.args.len.now c.copy.new.len c.copy.result
    c.subkey_count.ensures.names (c.len.ensures ∙ ap finite.len c.values.ensures) c.time.ensures (c.units.ensures ∙ c.name.ensures) c.copy.ensures
