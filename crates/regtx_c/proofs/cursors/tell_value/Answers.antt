-- The value at an index of the key at the end of the way is that of the tree at the place.
use Rattle.std.proofs.Common.{slice_get, sym, ap, ◌∙◌}
use Rattle.std.specs.FinMap as finite
use Rattle.reg_tree_parts.specs.Rows.{ValueMap}
use Rattle.regtx_c.specs.Places.{value_of}
use Rattle.regtx_c.specs.Ways.{end_of}
use Rattle.regtx_c.proofs.Ways.{value_there}
use Rattle.regtx_c.proofs.CursorAnswers.{tells_no_value, tells_value}
use Rattle.regtx_c.proofs.cursors.tell_value.Goals as goal

pub returns-in_default : goal.returns-in_default
returns-in_default c =
    let tree = c.block.inside.tree in
    tells_no_value (value_of c.args.index c.args.block.now)
    (c.in_default.ensures ∙ ap (λ (values : ValueMap). slice_get (finite.values values) c.args.index) c.values.ensures
    ∙ sym (value_there tree c.block.inside.way.items c.end-node.result.now c.key.result.now c.args.index c.end-node.ensures.root c.block.invariant (c.end-node.ensures.end ∙ ap (end_of tree) c.deref.ensures.value) c.key.ensures.here)
    ∙ ap (value_of c.args.index) c.block.view_is)
    c.args.value.now c.args.name.now c.args.data.now c.code_of.result c.code_of.ensures

pub returns : goal.returns
returns c =
    let tree = c.block.inside.tree in
    let value = c.in-Some.found.now in
    tells_value (value_of c.args.index c.args.block.now) value
    (c.in-Some.ensures ∙ ap (λ (values : ValueMap). slice_get (finite.values values) c.args.index) c.values.ensures
    ∙ sym (value_there tree c.block.inside.way.items c.end-node.result.now c.key.result.now c.args.index c.end-node.ensures.root c.block.invariant (c.end-node.ensures.end ∙ ap (end_of tree) c.deref.ensures.value) c.key.ensures.here)
    ∙ ap (value_of c.args.index) c.block.view_is)
    c.args.value.now c.units-units.result.now c.bytes-bytes.result.now c.args.name.now c.copy_both.new.one_into c.args.data.now c.copy_both.new.two_into c.copy_both.result
    c.units-units.ensures c.bytes-bytes.ensures c.copy_both.ensures
