use Rattle.std.proofs.Common.{◌+◌, ◌*◌}
use Rattle.hive_edit.specs.LeafChanges.{PutsElement}
use Rattle.hive_edit.proofs.CellChanges.{some_says}
use Rattle.hive_edit.proofs.LeafInserts.{freed_sizes}
use Rattle.hive_edit.proofs.IndirectGrowths.{word_room, grown_below}
use Rattle.hive_edit.proofs.indirect_growth.grow_leaf_below.Goals as goal

pub put_leaf-requires : goal.put_leaf-requires
put_leaf-requires c = record { near = c.requires.near; room = c.in_ok-leaf.ensures.sizes c.args.list.at (4 + 4 * (c.args.place.index + 1)) (word_room c.args.image.now.bytes c.args.list.at c.args.place.index c.args.place.leaf c.tiles.ensures.tiles c.requires.place) }

pub free_old_list-requires : goal.free_old_list-requires
free_old_list-requires c = record { there = (c.in_ok-put_leaf.ensures.sizes c.args.place.leaf (4 + c.args.shape.stride * c.args.shape.count) (c.in_ok-leaf.ensures.sizes c.args.place.leaf (4 + c.args.shape.stride * c.args.shape.count) c.requires.shape.long)).0 }

pub returns-in_default-clause-sizes : goal.returns-in_default-clause-sizes
returns-in_default-clause-sizes c = λ cell len bare has. c.in_ok-leaf.ensures.sizes cell len has

pub returns-clause-grown : goal.returns-clause-grown
returns-clause-grown c =
    let old = c.args.image.now.bytes in
    let first = c.insert_element.new.image.bytes in
    grown_below old first c.put_leaf.new.image.bytes c.free_old_list.new.image.bytes c.args.list c.requires.some c.args.place.index c.args.place.leaf c.requires.place c.args.shape c.requires.shape c.args.new c.requires.index c.in-Some.leaf
    (some_says c.in_ok-leaf.field-0 c.in-Some.leaf (PutsElement old first c.args.place.leaf c.args.shape c.args.new) c.in-Some.is c.in_ok-leaf.ensures.put) c.in_ok-put_leaf.ensures.put c.in_ok-free_old_list.ensures.freed

pub returns-clause-sizes : goal.returns-clause-sizes
returns-clause-sizes c = freed_sizes c.args.image.now.bytes c.put_leaf.new.image.bytes c.free_old_list.new.image.bytes c.args.place.leaf c.in-Some.leaf c.requires.shape.holds (λ cell len bare has. c.in_ok-put_leaf.ensures.sizes cell len (c.in_ok-leaf.ensures.sizes cell len has)) c.in_ok-free_old_list.ensures.freed
