use Rattle.std.proofs.Common.{◌+◌, ◌*◌}
use Rattle.hive_savepoint.specs.Puts.{Overlays, ChangesCell}
use Rattle.hive_edit.specs.LeafChanges.{PutsLeaf}
use Rattle.hive_edit.proofs.CellChanges.{on_ok}
use Rattle.hive_edit.proofs.IndirectGrowths.{leaf_put, leaf_same}
use Rattle.hive_edit.proofs.indirect_growth.put_leaf.Goals as goal

pub returns-then-place-leaf-clause-put : goal.returns-then-place-leaf-clause-put
returns-then-place-leaf-clause-put c = leaf_same c.args.image.now.bytes c.args.list c.args.place.index c.args.place.leaf c.args.leaf c.if-place-leaf.true

pub returns-clause-put : goal.returns-clause-put
returns-clause-put c =
    let old = c.args.image.now.bytes in
    let new = c.write.new.self.bytes in
    on_ok c.write.result (ChangesCell old new c.args.list (λ its now. Overlays its now (4 + 4 * c.args.place.index) c.u32_bytes.result)) (PutsLeaf old new c.args.list c.args.place.index c.args.place.leaf c.args.leaf)
    (λ put. leaf_put old new c.args.list c.args.place.index c.args.place.leaf c.args.leaf c.u32_bytes.result put c.u32_bytes.ensures.len c.u32_bytes.ensures.is) c.write.ensures.written

pub returns-clause-sizes : goal.returns-clause-sizes
returns-clause-sizes c =
    let old = c.args.image.now.bytes in
    let new = c.write.new.self.bytes in
    on_ok c.write.result (ChangesCell old new c.args.list (λ its now. Overlays its now (4 + 4 * c.args.place.index) c.u32_bytes.result)) _ (λ put. put.sizes) c.write.ensures.written
