use Rattle.std.proofs.Common.{◌+◌, ◌*◌, arith}
use Rattle.hive_cells.specs.Tiles.{cell_data}
use Rattle.hive_savepoint.specs.Puts.{HasData, AddsCell}
use Rattle.hive_edit.proofs.CellChanges.{some_says}
use Rattle.hive_edit.proofs.LeafInserts.{put_here, put_copy}
use Rattle.hive_edit.proofs.leaf_insert.insert_element.Goals as goal

pub returns-then-shape-clause-put : goal.returns-then-shape-clause-put
returns-then-shape-clause-put c = put_here c.args.image.now.bytes c.lengthen_leaf.new.image.bytes c.args.list c.args.shape c.args.new c.tiles.ensures.tiles c.requires.shape c.requires.index (let l = c.if-shape.true in omega (arith, l)) c.in_ok-lengthen_leaf.ensures.put

pub returns-clause-put : goal.returns-clause-put
returns-clause-put c =
    let old = c.args.image.now.bytes in
    let mid = c.copy_list.new.image.bytes in
    put_copy old mid c.lengthen_leaf-2.new.image.bytes c.args.list c.args.shape c.args.new c.in-Some.copy c.tiles.ensures.tiles c.tiles-2.ensures.tiles c.requires.shape c.requires.index
    (some_says c.in_ok-copy.field-0 c.in-Some.copy (λ at. AddsCell old mid at (cell_data old c.args.list)) c.in-Some.is c.in_ok-copy.ensures.copied)
    (some_says c.in_ok-copy.field-0 c.in-Some.copy (λ at. HasData mid at (4 + c.args.shape.stride * (c.args.shape.count + 1))) c.in-Some.is c.in_ok-copy.ensures.room)
    c.in_ok-lengthen_leaf-2.ensures.put

pub returns-clause-sizes : goal.returns-clause-sizes
returns-clause-sizes c = λ cell len has. c.in_ok-lengthen_leaf-2.ensures.put.sizes cell len (c.in_ok-copy.ensures.sizes cell len has)
