use Rattle.std.proofs.Common.{ℕ, List, ◌+◌, ◌-◌, ◌*◌, arith}
use Rattle.hive_savepoint.specs.Puts.{Overlays, Moves, ChangesCell}
use Rattle.hive_edit.specs.SubkeyPlaces.{LeafLoses}
use Rattle.hive_edit.proofs.CellChanges.{on_ok, twice}
use Rattle.hive_edit.proofs.LeafWrites.{leaf_lost}
use Rattle.hive_edit.proofs.leaf_edit.shorten_leaf.Goals as goal

pub write-requires : goal.write-requires
write-requires c = let h = c.in_ok-shift.ensures.moved.sizes c.args.leaf (4 + c.args.shape.stride * c.args.shape.count) c.requires.shape.long in (h.0, omega (arith, h.1, c.u16_bytes.ensures.len))

pub returns-clause-put : goal.returns-clause-put
returns-clause-put c =
    let stride = c.args.shape.stride in
    let count = c.args.shape.count - 1 in
    let index = c.args.index in
    let first : List ℕ → List ℕ → Type 0 = λ its now. Moves its now (4 + stride * index + stride) (4 + stride * index) (stride * (count - index)) in
    let then : List ℕ → List ℕ → Type 0 = λ its now. Overlays its now 2 c.u16_bytes.result in
    let both : List ℕ → List ℕ → Type 0 = λ its now. LeafLoses its now stride count index in
    on_ok c.write.result (ChangesCell c.shift.new.self.bytes c.write.new.self.bytes c.args.leaf then) (ChangesCell c.args.image.now.bytes c.write.new.self.bytes c.args.leaf both)
    (twice c.args.image.now.bytes c.shift.new.self.bytes c.write.new.self.bytes c.args.leaf first then both
    (λ its half now a b. leaf_lost its half now c.u16_bytes.result stride count index a b c.requires.shape.wide (let w = c.requires.within in omega (arith, w)) c.u16_bytes.ensures.len c.u16_bytes.ensures.is) c.in_ok-shift.ensures.moved) c.write.ensures.written
