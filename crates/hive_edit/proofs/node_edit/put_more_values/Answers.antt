use Rattle.std.proofs.Common.{List, ℕ, arith}
use Rattle.hive_savepoint.specs.Puts.{Overlays, ChangesCell}
use Rattle.hive_edit.specs.ValueLists.{ValuesArePut}
use Rattle.hive_edit.proofs.CellChanges.{on_ok, twice}
use Rattle.hive_edit.proofs.ValueNodes.{bounds_put}
use Rattle.hive_edit.proofs.node_edit.put_more_values.Goals as goal

pub value_bounds-old-requires : goal.value_bounds-old-requires
value_bounds-old-requires c = record { node = c.in_ok-put_values.ensures.put.sizes c.args.key 76 c.requires.node }

pub write-requires : goal.write-requires
write-requires c = let h = c.in_ok-put_values.ensures.put.sizes c.args.key 76 c.requires.node in (h.0, omega (arith, h.1, c.u32_bytes-longest.ensures.len))

pub write-requires-2 : goal.write-requires-2
write-requires-2 c = let h = c.in_ok-write.ensures.written.sizes c.args.key 76 (c.in_ok-put_values.ensures.put.sizes c.args.key 76 c.requires.node) in (h.0, omega (arith, h.1, c.u32_bytes-largest.ensures.len))

pub returns-clause-put : goal.returns-clause-put
returns-clause-put c =
    let old = c.args.image.now.bytes in
    let put : List ℕ → List ℕ → Type 0 = ValuesArePut c.args.count c.args.list c.args.moment in
    let then : List ℕ → List ℕ → Type 0 = λ its now. Overlays its now 60 c.u32_bytes-longest.result in
    let last : List ℕ → List ℕ → Type 0 = λ its now. Overlays its now 64 c.u32_bytes-largest.result in
    on_ok c.write-2.result (ChangesCell c.write.new.self.bytes c.write-2.new.self.bytes c.args.key last) (ChangesCell old c.write-2.new.self.bytes c.args.key put)
    (twice old c.write.new.self.bytes c.write-2.new.self.bytes c.args.key put last put
    (λ its half now v o. bounds_put its half now c.u32_bytes-largest.result c.args.count c.args.list c.args.moment 64 v o (omega arith) (omega (arith, c.u32_bytes-largest.ensures.len)))
    (twice old c.put_values.new.image.bytes c.write.new.self.bytes c.args.key put then put
    (λ its half now v o. bounds_put its half now c.u32_bytes-longest.result c.args.count c.args.list c.args.moment 60 v o (omega arith) (omega (arith, c.u32_bytes-longest.ensures.len)))
    c.in_ok-put_values.ensures.put c.in_ok-write.ensures.written))
    c.write-2.ensures.written
