use Rattle.std.proofs.Common.{List, ℕ, arith}
use Rattle.hive_savepoint.specs.Puts.{Overlays, ChangesCell}
use Rattle.hive_edit.specs.ValueLists.{ValuesArePut}
use Rattle.hive_edit.proofs.CellChanges.{on_ok}
use Rattle.hive_edit.proofs.ValueNodes.{node_put}
use Rattle.hive_edit.proofs.node_edit.put_values.Goals as goal

pub write-requires-2 : goal.write-requires-2
write-requires-2 c = let h = c.in_ok-write.ensures.written.sizes c.args.key 76 c.requires.node in (h.0, omega (arith, h.1, c.u32_bytes-2.ensures.len))

pub write-requires-3 : goal.write-requires-3
write-requires-3 c = let h = c.in_ok-write-2.ensures.written.sizes c.args.key 76 (c.in_ok-write.ensures.written.sizes c.args.key 76 c.requires.node) in (h.0, omega (arith, h.1, c.u64_bytes.ensures.len))

pub returns-clause-put : goal.returns-clause-put
returns-clause-put c =
    let last : List ℕ → List ℕ → Type 0 = λ its now. Overlays its now 4 c.u64_bytes.result in
    on_ok c.write-3.result (ChangesCell c.write-2.new.self.bytes c.write-3.new.self.bytes c.args.key last) (ChangesCell c.args.image.now.bytes c.write-3.new.self.bytes c.args.key (ValuesArePut c.args.count c.args.list c.args.moment))
    (λ h. node_put c.args.image.now.bytes c.write.new.self.bytes c.write-2.new.self.bytes c.write-3.new.self.bytes c.u32_bytes.result c.u32_bytes-2.result c.u64_bytes.result c.args.key c.args.count c.args.list c.args.moment
    c.in_ok-write.ensures.written c.in_ok-write-2.ensures.written h c.u32_bytes.ensures.len c.u32_bytes.ensures.is c.u32_bytes-2.ensures.len c.u32_bytes-2.ensures.is c.u64_bytes.ensures.len c.u64_bytes.ensures.is)
    c.write-3.ensures.written
