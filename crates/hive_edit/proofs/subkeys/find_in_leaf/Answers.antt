use Rattle.std.proofs.Common.{refl}
use Rattle.hive_edit.proofs.Slots.{leaf_slot, named_there}
use Rattle.hive_edit.specs.declared.search.RecordKind.TheVariants.{Key}
use Rattle.hive_edit.proofs.subkeys.find_in_leaf.Goals as goal

pub returns : goal.returns
returns c = (
  refl,
  refl,
  leaf_slot c.args.image.now.bytes c.args.leaf c.in_ok-list.list c.elements-offsets.result c.in_ok-index.index c.get.result
      c.in_ok-list.ensures.holds c.in_ok-list.ensures.is c.if-list.false c.elements-offsets.ensures.bytes c.elements-offsets.ensures.stride c.elements-offsets.ensures.count c.in_ok-index.ensures.0 c.get.ensures,
  named_there Key c.args.image.now.bytes c.get.result _ _ c.get.ensures c.in_ok-index.ensures.1,
)
