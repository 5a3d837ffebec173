use Rattle.hive_edit.proofs.Slots.{leaf_at_index}
use Rattle.hive_edit.proofs.subkeys.leaf_for.Goals as goal

pub returns-clause-place : goal.returns-clause-place
returns-clause-place c = leaf_at_index c.args.image.now.bytes c.args.list c.in_ok-lists.lists c.elements-leaves.result c.likely_leaf-index.result c.get-2.result c.in_ok-lists.ensures.holds c.in_ok-lists.ensures.is c.if-not-lists.false c.elements-leaves.ensures.bytes c.elements-leaves.ensures.stride c.elements-leaves.ensures.count c.likely_leaf-index.ensures c.get-2.ensures
