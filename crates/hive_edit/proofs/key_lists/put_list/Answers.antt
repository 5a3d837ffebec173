use Rattle.std.proofs.Common.{ℕ, List, arith}
use Rattle.hive_savepoint.specs.Puts.{Overlays, ChangesCell}
use Rattle.hive_edit.specs.SubkeyPlaces.{NodeGetsList}
use Rattle.hive_edit.proofs.CellChanges.{on_ok, twice}
use Rattle.hive_edit.proofs.KeyListWrites.{list_put}
use Rattle.hive_edit.proofs.key_lists.put_list.Goals as goal

pub write-requires-2 : goal.write-requires-2
write-requires-2 c = let h = c.in_ok-write.ensures.written.sizes c.args.key 76 c.requires.node in (h.0, omega (arith, h.1, c.u32_bytes.ensures.len))

pub write-requires-3 : goal.write-requires-3
write-requires-3 c = let h = c.in_ok-write-2.ensures.written.sizes c.args.key 76 (c.in_ok-write.ensures.written.sizes c.args.key 76 c.requires.node) in (h.0, omega (arith, h.1, c.u32_bytes-2.ensures.len))

pub returns-clause-put : goal.returns-clause-put
returns-clause-put c =
    let old = c.args.image.now.bytes in
    let stamped = c.write.new.self.bytes in
    let counted = c.write-2.new.self.bytes in
    let new = c.write-3.new.self.bytes in
    let first : List ℕ → List ℕ → Type 0 = λ its now. Overlays its now 4 c.u64_bytes.result in
    let second : List ℕ → List ℕ → Type 0 = λ its now. Overlays its now 20 c.u32_bytes.result in
    let third : List ℕ → List ℕ → Type 0 = λ its now. Overlays its now 28 c.u32_bytes-2.result in
    let two : List ℕ → List ℕ → Type 0 = λ its now. (half : List ℕ) × first its half × second half now in
    let all : List ℕ → List ℕ → Type 0 = λ its now. NodeGetsList its now c.args.list.count c.args.list.at c.args.moment in
    on_ok c.write-3.result (ChangesCell counted new c.args.key third) (ChangesCell old new c.args.key all)
    (twice old counted new c.args.key two third all
    (λ its half now a b. list_put its a.0 half now c.u64_bytes.result c.u32_bytes.result c.u32_bytes-2.result c.args.list.count c.args.list.at c.args.moment a.1 a.2 b c.u64_bytes.ensures.len c.u64_bytes.ensures.is c.u32_bytes.ensures.len c.u32_bytes.ensures.is c.u32_bytes-2.ensures.len c.u32_bytes-2.ensures.is)
    (twice old stamped counted c.args.key first second two (λ its half now a b. (half, a, b)) c.in_ok-write.ensures.written c.in_ok-write-2.ensures.written)) c.write-3.ensures.written
