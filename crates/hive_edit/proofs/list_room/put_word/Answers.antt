use Rattle.std.proofs.Common.{List, ℕ, ◌+◌, ◌-◌, ◌*◌, arith}
use Rattle.hive_savepoint.specs.Puts.{Moves, Overlays, ChangesCell}
use Rattle.hive_edit.specs.ValueLists.{TakesWord}
use Rattle.hive_edit.proofs.CellChanges.{on_ok, twice}
use Rattle.hive_edit.proofs.ListInserts.{word_in}
use Rattle.hive_edit.proofs.list_room.put_word.Goals as goal

pub write-requires : goal.write-requires
write-requires c = let h = c.in_ok-shift.ensures.moved.sizes c.args.at _ c.requires.room in (h.0, (let l = h.1 in let k = c.u32_bytes.ensures.len in let m = c.requires.here in omega (arith, l, k, m)))

pub returns-clause-put : goal.returns-clause-put
returns-clause-put c =
    let old = c.args.image.now.bytes in
    let first : List ℕ → List ℕ → Type 0 = λ its now. Moves its now (4 * c.args.index) (4 * (c.args.index + 1)) (4 * (c.args.count - c.args.index)) in
    let then : List ℕ → List ℕ → Type 0 = λ its now. Overlays its now (4 * c.args.index) c.u32_bytes.result in
    let both : List ℕ → List ℕ → Type 0 = TakesWord c.args.count c.args.index c.args.word in
    on_ok c.write.result (ChangesCell c.shift.new.self.bytes c.write.new.self.bytes c.args.at then) (ChangesCell old c.write.new.self.bytes c.args.at both)
    (twice old c.shift.new.self.bytes c.write.new.self.bytes c.args.at first then both
    (λ its half now m o. word_in its half now c.u32_bytes.result c.args.count c.args.index c.args.word c.requires.here m o c.u32_bytes.ensures.len c.u32_bytes.ensures.is) c.in_ok-shift.ensures.moved)
    c.write.ensures.written
