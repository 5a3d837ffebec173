use Rattle.std.proofs.Common.{List, ℕ, arith}
use Rattle.hive_edit_laws.specs.RecordEdits.{NodeTimeChanges}
use Rattle.hive_savepoint.specs.Puts.{Overlays, ChangesCell}
use Rattle.hive_edit.proofs.CellChanges.{on_ok, twice}
use Rattle.hive_edit.proofs.RecordWrites.{time_put}
use Rattle.hive_edit.proofs.value_edit.put_time.Goals as goal

pub write-requires-2 : goal.write-requires-2
write-requires-2 c = let h = c.in_ok-write.ensures.written.sizes c.args.key 76 c.requires.node in (h.0, omega (arith, h.1, c.u32_bytes.ensures.len))

pub returns-clause-put : goal.returns-clause-put
returns-clause-put c =
    let first : List ℕ → List ℕ → Type 0 = λ its now. Overlays its now 4 c.u64_bytes.result in
    let then : List ℕ → List ℕ → Type 0 = λ its now. Overlays its now 64 c.u32_bytes.result in
    let both : List ℕ → List ℕ → Type 0 = λ its now. NodeTimeChanges its now c.args.moment in
    on_ok c.write-2.result (ChangesCell c.write.new.self.bytes c.write-2.new.self.bytes c.args.key then) (ChangesCell c.args.image.now.bytes c.write-2.new.self.bytes c.args.key both)
    (twice c.args.image.now.bytes c.write.new.self.bytes c.write-2.new.self.bytes c.args.key first then both
    (λ its half now a b. time_put its half now c.u64_bytes.result c.u32_bytes.result c.args.moment a b c.u64_bytes.ensures.len c.u64_bytes.ensures.is c.u32_bytes.ensures.len) c.in_ok-write.ensures.written) c.write-2.ensures.written
