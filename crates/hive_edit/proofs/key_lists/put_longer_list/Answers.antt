use Rattle.std.proofs.Common.{ℕ, List, arith}
use Rattle.hive_savepoint.specs.Puts.{Overlays, ChangesCell}
use Rattle.hive_edit.specs.SubkeyPlaces.{NodeGetsList}
use Rattle.hive_edit.proofs.CellChanges.{on_ok, twice}
use Rattle.hive_edit.proofs.KeyListWrites.{list_bounded}
use Rattle.hive_edit.proofs.key_lists.put_longer_list.Goals as goal

pub write-requires : goal.write-requires
write-requires c = let h = c.in_ok-put_list.ensures.put.sizes c.args.key 76 c.requires.node in (h.0, omega (arith, h.1, c.u16_bytes.ensures.len))

pub returns-clause-put : goal.returns-clause-put
returns-clause-put c =
    let then : List ℕ → List ℕ → Type 0 = λ its now. Overlays its now 52 c.u16_bytes.result in
    let all : List ℕ → List ℕ → Type 0 = λ its now. NodeGetsList its now c.args.list.count c.args.list.at c.args.moment in
    on_ok c.write.result (ChangesCell c.put_list.new.image.bytes c.write.new.self.bytes c.args.key then) (ChangesCell c.args.image.now.bytes c.write.new.self.bytes c.args.key all)
    (twice c.args.image.now.bytes c.put_list.new.image.bytes c.write.new.self.bytes c.args.key all then all
    (λ its half now g o. list_bounded its half now c.u16_bytes.result c.args.list.count c.args.list.at c.args.moment g o c.u16_bytes.ensures.len) c.in_ok-put_list.ensures.put) c.write.ensures.written
