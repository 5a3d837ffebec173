use Rattle.std.proofs.Common.{ℕ, List, ◌+◌, ◌-◌, ◌*◌, arith}
use Rattle.hive_savepoint.specs.Puts.{Overlays, Moves, ChangesCell}
use Rattle.hive_edit.specs.SubkeyPlaces.{LeafGains}
use Rattle.hive_edit.proofs.CellChanges.{on_ok, twice}
use Rattle.hive_edit.proofs.LeafWrites.{leaf_gained, gap_room}
use Rattle.hive_edit.proofs.leaf_edit.lengthen_leaf.Goals as goal

pub write-requires : goal.write-requires
write-requires c =
    let h = c.in_ok-shift.ensures.moved.sizes c.args.leaf (4 + c.args.shape.stride * (c.args.shape.count + 1)) c.requires.room in
    let g = gap_room c.args.shape.stride c.args.shape.count c.args.index c.requires.within in
    (h.0, omega (arith, h.1, g, c.requires.wide, c.u32_bytes.ensures.len))

pub write-requires-2 : goal.write-requires-2
write-requires-2 c =
    let h = c.in_ok-write.ensures.written.sizes c.args.leaf (4 + c.args.shape.stride * (c.args.shape.count + 1)) (c.in_ok-shift.ensures.moved.sizes c.args.leaf (4 + c.args.shape.stride * (c.args.shape.count + 1)) c.requires.room) in
    let g = gap_room c.args.shape.stride c.args.shape.count c.args.index c.requires.within in
    (h.0, omega (arith, h.1, g, c.requires.wide, c.u32_bytes-2.ensures.len))

pub write-requires-3 : goal.write-requires-3
write-requires-3 c =
    let h = c.in_ok-write-2.ensures.written.sizes c.args.leaf (4 + c.args.shape.stride * (c.args.shape.count + 1)) (c.in_ok-write.ensures.written.sizes c.args.leaf (4 + c.args.shape.stride * (c.args.shape.count + 1)) (c.in_ok-shift.ensures.moved.sizes c.args.leaf (4 + c.args.shape.stride * (c.args.shape.count + 1)) c.requires.room)) in
    (h.0, omega (arith, h.1, c.u16_bytes.ensures.len))

pub returns-clause-put : goal.returns-clause-put
returns-clause-put c =
    let stride = c.args.shape.stride in
    let count = c.args.shape.count in
    let index = c.args.index in
    let leaf = c.args.leaf in
    let old = c.args.image.now.bytes in
    let moved = c.shift.new.self.bytes in
    let hinted = c.write.new.self.bytes in
    let placed = c.write-2.new.self.bytes in
    let new = c.write-3.new.self.bytes in
    let first : List ℕ → List ℕ → Type 0 = λ its now. Moves its now (4 + stride * index) (4 + stride * index + stride) (stride * (count - index)) in
    let second : List ℕ → List ℕ → Type 0 = λ its now. Overlays its now (4 + stride * index + stride - 4) c.u32_bytes.result in
    let third : List ℕ → List ℕ → Type 0 = λ its now. Overlays its now (4 + stride * index) c.u32_bytes-2.result in
    let fourth : List ℕ → List ℕ → Type 0 = λ its now. Overlays its now 2 c.u16_bytes.result in
    let two : List ℕ → List ℕ → Type 0 = λ its now. (a : List ℕ) × first its a × second a now in
    let three : List ℕ → List ℕ → Type 0 = λ its now. (b : List ℕ) × two its b × third b now in
    let all : List ℕ → List ℕ → Type 0 = λ its now. LeafGains its now stride count index c.args.subkey in
    on_ok c.write-3.result (ChangesCell placed new leaf fourth) (ChangesCell old new leaf all)
    (twice old placed new leaf three fourth all
    (λ its half now p o. leaf_gained its p.1.0 p.0 half now c.u32_bytes.result c.u32_bytes-2.result c.u16_bytes.result stride count index c.args.subkey p.1.1 p.1.2 p.2 o c.requires.wide c.requires.within c.u32_bytes.ensures.len c.u32_bytes-2.ensures.len c.u32_bytes-2.ensures.is c.u16_bytes.ensures.len (let i = c.u16_bytes.ensures.is in omega (arith, i)))
    (twice old hinted placed leaf two third three (λ its half now p o. (half, p, o))
    (twice old moved hinted leaf first second two (λ its half now p o. (half, p, o)) c.in_ok-shift.ensures.moved c.in_ok-write.ensures.written) c.in_ok-write-2.ensures.written)) c.write-3.ensures.written
