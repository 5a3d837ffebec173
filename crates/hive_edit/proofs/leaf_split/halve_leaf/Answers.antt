use Rattle.std.proofs.Common.{ℕ, List, ◌+◌, ◌*◌, ◌/◌, sym, subst, arith}
use Rattle.hive_cells.specs.Tiles.{cell_data}
use Rattle.hive_savepoint.specs.Puts.{AddsCell}
use Rattle.hive_edit.specs.LeafChanges.{HasBack}
use Rattle.hive_edit.proofs.CellChanges.{some_says}
use Rattle.hive_edit.proofs.LeafHalves.{halved}
use Rattle.hive_edit.proofs.leaf_split.halve_leaf.Goals as goal

pub write-requires : goal.write-requires
write-requires c = let h = c.in_ok-second.ensures.sizes c.args.leaf (4 + c.args.shape.stride * c.args.shape.count) c.requires.shape.long in (h.0, (let l = h.1 in let k = c.u16_bytes.ensures.len in omega (arith, l, k)))

pub returns-clause-halved : goal.returns-clause-halved
returns-clause-halved c =
    let old = c.args.image.now.bytes in
    let mid = c.insert_cell.new.image.bytes in
    let half = c.args.shape.count / 2 in
    let second = c.in-Some-2.second in
    halved old mid c.write.new.self.bytes c.args.leaf second c.args.shape half c.deref.result.now c.u16_bytes.result c.tiles.ensures.tiles c.requires.shape (omega arith)
    (subst (λ (z : List ℕ). HasBack (cell_data old c.args.leaf) z c.args.shape.stride c.args.shape.count half) (sym c.deref.ensures.value)
    (some_says c.in_ok-text.field-0 c.in-Some.text (λ text. HasBack (cell_data old c.args.leaf) text.items c.args.shape.stride c.args.shape.count half) c.in-Some.is c.in_ok-text.ensures.text))
    (some_says c.in_ok-second.field-0 second (λ at. AddsCell old mid at c.deref.result.now) c.in-Some-2.is c.in_ok-second.ensures.added)
    c.in_ok-write.ensures.written c.u16_bytes.ensures.len c.u16_bytes.ensures.is

pub returns-clause-sizes : goal.returns-clause-sizes
returns-clause-sizes c = λ cell len has. c.in_ok-write.ensures.written.sizes cell len (c.in_ok-second.ensures.sizes cell len has)
