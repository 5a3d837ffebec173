use Rattle.std.proofs.Common.{Some}
use Rattle.hive_edit.proofs.Slots.{leaf_at_index, slot_of}
use Rattle.hive_edit.proofs.subkeys.find_slot.Goals as goal

pub returns-in-Some : goal.returns-in-Some
returns-in-Some c = (
  slot_of c.args.image.now.bytes c.args.list c.in-Some.slot (Some c.likely_leaf-likely.result) c.get.result c.in-Some.ensures.0 c.in-Some.ensures.1
      (leaf_at_index c.args.image.now.bytes c.args.list c.in_ok-lists.lists c.elements-leaves.result c.likely_leaf-likely.result c.get.result
      c.in_ok-lists.ensures.holds c.in_ok-lists.ensures.is c.if-not-lists.false c.elements-leaves.ensures.bytes c.elements-leaves.ensures.stride c.elements-leaves.ensures.count c.likely_leaf-likely.ensures c.get.ensures)
      c.in-Some.ensures.2,
  c.in-Some.ensures.3,
)

pub returns-in-Some-find_in_leaf : goal.returns-in-Some-find_in_leaf
returns-in-Some-find_in_leaf c = (
  slot_of c.args.image.now.bytes c.args.list c.in-Some-find_in_leaf.slot (Some c.loop-index.index) c.get-in-loop-index.result c.in-Some-find_in_leaf.ensures.0 c.in-Some-find_in_leaf.ensures.1
      (leaf_at_index c.args.image.now.bytes c.args.list c.in_ok-lists.lists c.elements-leaves.result c.loop-index.index c.get-in-loop-index.result
      c.in_ok-lists.ensures.holds c.in_ok-lists.ensures.is c.if-not-lists.false c.elements-leaves.ensures.bytes c.elements-leaves.ensures.stride c.elements-leaves.ensures.count c.loop-index-test.true c.get-in-loop-index.ensures)
      c.in-Some-find_in_leaf.ensures.2,
  c.in-Some-find_in_leaf.ensures.3,
)
