use Rattle.std.proofs.Common.{◌+◌, ◌*◌, refl, arith}
use Rattle.hive_edit.specs.LeafChanges.{HalvesLeaf, PutsElement}
use Rattle.hive_edit.specs.declared.leaf_insert.NewElement.{NewElement}
use Rattle.hive_edit.proofs.CellChanges.{some_says}
use Rattle.hive_edit.proofs.LeafInserts.{freed_sizes}
use Rattle.hive_edit.proofs.IndirectSplits.{below_kept, below_cells, apart_kinds}
use Rattle.hive_edit.proofs.leaf_split.split_leaf_below.Goals as goal

pub returns-in_default-clause-sizes : goal.returns-in_default-clause-sizes
returns-in_default-clause-sizes c = λ cell len bare has. c.in_ok-second.ensures.sizes cell len has

pub returns-in_default-leaf_shape-clause-sizes : goal.returns-in_default-leaf_shape-clause-sizes
returns-in_default-leaf_shape-clause-sizes c = λ cell len bare has. c.in_ok-second.ensures.sizes cell len has

pub returns-then-lists-clause-sizes : goal.returns-then-lists-clause-sizes
returns-then-lists-clause-sizes c = λ cell len bare has. c.in_ok-second.ensures.sizes cell len has

pub returns-in_default-2-clause-sizes : goal.returns-in_default-2-clause-sizes
returns-in_default-2-clause-sizes c = λ cell len bare has. c.in_ok-made.ensures.sizes cell len (c.in_ok-second.ensures.sizes cell len has)

pub free_old_list-requires : goal.free_old_list-requires
free_old_list-requires c = record { there = (c.in_ok-made.ensures.sizes c.args.list.at (4 + c.in-Some-leaf_shape.lists.stride * c.in-Some-leaf_shape.lists.count) c.in-Some-leaf_shape.ensures.long).0 }

pub returns-clause-sizes : goal.returns-clause-sizes
returns-clause-sizes c = freed_sizes c.args.image.now.bytes c.insert_element.new.image.bytes c.free_old_list.new.image.bytes c.args.list.at c.in-Some-2.made c.requires.place.holds (λ cell len bare has. c.in_ok-made.ensures.sizes cell len (c.in_ok-second.ensures.sizes cell len has)) c.in_ok-free_old_list.ensures.freed

pub returns-clause-kept : goal.returns-clause-kept
returns-clause-kept c =
    let old = c.args.image.now.bytes in
    let mid = c.halve_leaf.new.image.bytes in
    let next = c.insert_element.new.image.bytes in
    let second = c.in-Some.second in
    let made = c.in-Some-2.made in
    let lists = c.in-Some-leaf_shape.lists in
    let new : NewElement = record { index = c.args.place.index + 1; offset = second; hint = 0 } in
    below_kept old mid next c.free_old_list.new.image.bytes c.args.list c.requires.some c.args.place.index c.args.place.leaf c.requires.place c.args.shape c.requires.shape second
    (some_says c.in_ok-second.field-0 second (HalvesLeaf old mid c.args.place.leaf) c.in-Some.is c.in_ok-second.ensures.halved)
    lists c.in-Some-leaf_shape.ensures new (omega arith) refl (let l = c.if-lists-place.false in omega (arith, l)) made
    (some_says c.in_ok-made.field-0 made (PutsElement mid next c.args.list.at lists new) c.in-Some-2.is c.in_ok-made.ensures.put) c.in_ok-free_old_list.ensures.freed

pub returns-clause-cells : goal.returns-clause-cells
returns-clause-cells c =
    let old = c.args.image.now.bytes in
    let mid = c.halve_leaf.new.image.bytes in
    let next = c.insert_element.new.image.bytes in
    let second = c.in-Some.second in
    let made = c.in-Some-2.made in
    let lists = c.in-Some-leaf_shape.lists in
    let new : NewElement = record { index = c.args.place.index + 1; offset = second; hint = 0 } in
    below_cells old mid next c.free_old_list.new.image.bytes c.args.list c.requires.some c.args.place.index c.args.place.leaf c.requires.place c.args.shape c.requires.shape second
    (some_says c.in_ok-second.field-0 second (HalvesLeaf old mid c.args.place.leaf) c.in-Some.is c.in_ok-second.ensures.halved)
    lists c.in-Some-leaf_shape.ensures new (omega arith) refl (let l = c.if-lists-place.false in omega (arith, l)) made
    (some_says c.in_ok-made.field-0 made (PutsElement mid next c.args.list.at lists new) c.in-Some-2.is c.in_ok-made.ensures.put) c.in_ok-free_old_list.ensures.freed
    c.tiles.ensures.shown.0 c.tiles.ensures.shown.1 (apart_kinds old c.args.list.at c.args.place.index c.args.place.leaf c.args.shape c.requires.place c.requires.shape c.requires.direct)
    (freed_sizes old next c.free_old_list.new.image.bytes c.args.list.at made c.requires.place.holds (λ cell len bare has. c.in_ok-made.ensures.sizes cell len (c.in_ok-second.ensures.sizes cell len has)) c.in_ok-free_old_list.ensures.freed)
