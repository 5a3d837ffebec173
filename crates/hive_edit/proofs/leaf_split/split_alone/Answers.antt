use Rattle.std.proofs.Common.{◌∙◌}
use Rattle.hive_savepoint.specs.Puts.{AddsCell}
use Rattle.hive_edit.specs.LeafChanges.{HalvesLeaf}
use Rattle.hive_edit.proofs.CellChanges.{some_says}
use Rattle.hive_edit.proofs.LeafSplits.{alone_kept, alone_cells}
use Rattle.hive_edit.proofs.leaf_split.split_alone.Goals as goal

pub returns-in_default-clause-sizes : goal.returns-in_default-clause-sizes
returns-in_default-clause-sizes c = λ cell len bare has. c.in_ok-second.ensures.sizes cell len has

pub returns-in_default-2-clause-sizes : goal.returns-in_default-2-clause-sizes
returns-in_default-2-clause-sizes c = λ cell len bare has. c.in_ok-made.ensures.sizes cell len (c.in_ok-second.ensures.sizes cell len has)

pub returns-clause-sizes : goal.returns-clause-sizes
returns-clause-sizes c = λ cell len bare has. c.in_ok-made.ensures.sizes cell len (c.in_ok-second.ensures.sizes cell len has)

pub returns-clause-kept : goal.returns-clause-kept
returns-clause-kept c =
    let old = c.args.image.now.bytes in
    let mid = c.halve_leaf.new.image.bytes in
    let new = c.insert_cell.new.image.bytes in
    let second = c.in-Some.second in
    let made = c.in-Some-2.made in
    alone_kept old mid new c.args.list c.requires.some c.args.shape c.requires.shape c.requires.direct second made c.deref.result.now
    (some_says c.in_ok-second.field-0 second (HalvesLeaf old mid c.args.list.at) c.in-Some.is c.in_ok-second.ensures.halved)
    (some_says c.in_ok-made.field-0 made (λ at. AddsCell mid new at c.deref.result.now) c.in-Some-2.is c.in_ok-made.ensures.added)
    (c.deref.ensures.value ∙ c.in_ok-text.ensures.text) c.in_ok-text.ensures.near

pub returns-clause-cells : goal.returns-clause-cells
returns-clause-cells c =
    let old = c.args.image.now.bytes in
    let mid = c.halve_leaf.new.image.bytes in
    let new = c.insert_cell.new.image.bytes in
    let second = c.in-Some.second in
    let made = c.in-Some-2.made in
    alone_cells old mid new c.args.list c.requires.some c.args.shape c.requires.shape c.requires.direct second made c.deref.result.now
    (some_says c.in_ok-second.field-0 second (HalvesLeaf old mid c.args.list.at) c.in-Some.is c.in_ok-second.ensures.halved)
    (some_says c.in_ok-made.field-0 made (λ at. AddsCell mid new at c.deref.result.now) c.in-Some-2.is c.in_ok-made.ensures.added)
    c.tiles.ensures.shown.0 c.tiles.ensures.shown.1 (λ cell len bare has. c.in_ok-made.ensures.sizes cell len (c.in_ok-second.ensures.sizes cell len has))
