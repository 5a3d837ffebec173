use Rattle.std.proofs.Common.{◌+◌, ap, ◌∙◌, arith, rules}
use Rattle.std.specs.Prelude.{slice_index}
use Rattle.std.proofs.lemmas.List.{with_items_is}
use Rattle.hive_cells.specs.Bins.{Bins}
use Rattle.hive_cells.specs.Tiles.{IsAllocatedCell}
use Rattle.hive_cells.proofs.Images.{write_all}
use Rattle.hive_cells.proofs.image.Image.shift.Goals as goal

pub invariant_of-self : goal.invariant_of-self
invariant_of-self c =
    let found : IsAllocatedCell c.args.self.now.bytes c.args.offset = c.if-not-is_allocated.ensures.found.0 (search rules) in
    rw (with_items_is c.self.inside.bytes c.move_bytes.new.bytes (c.move_bytes.ensures.written.len ∙ c.deref_mut.ensures.len))
    (write_all c.self.inside.bytes.items c.args.self.now.bytes c.deref_mut.result.now c.move_bytes.new.bytes c.self.inside.starts.items c.self.inside.free c.self.inside.spare c.self.inside.bytes.cap c.self.inside.starts.cap c.args.offset (c.args.offset + 4 + c.args.to) c.args.len
    (ap (λ (b : Bins). b.bytes) c.self.view_is) c.deref_mut.ensures.value c.self.invariant found (omega arith) (omega (arith, c.requires.target found)) c.move_bytes.ensures.written).0

pub returns-clause-moved : goal.returns-clause-moved
returns-clause-moved c =
    let found : IsAllocatedCell c.args.self.now.bytes c.args.offset = c.if-not-is_allocated.ensures.found.0 (search rules) in
    rw (with_items_is c.self.inside.bytes c.move_bytes.new.bytes (c.move_bytes.ensures.written.len ∙ c.deref_mut.ensures.len)) (
      (write_all c.self.inside.bytes.items c.args.self.now.bytes c.deref_mut.result.now c.move_bytes.new.bytes c.self.inside.starts.items c.self.inside.free c.self.inside.spare c.self.inside.bytes.cap c.self.inside.starts.cap c.args.offset (c.args.offset + 4 + c.args.to) c.args.len
          (ap (λ (b : Bins). b.bytes) c.self.view_is) c.deref_mut.ensures.value c.self.invariant found (omega arith) (omega (arith, c.requires.target found)) c.move_bytes.ensures.written).1,
      (λ j less. c.move_bytes.ensures.moved j less ∙ ap (λ xs. slice_index xs (c.args.offset + 4 + c.args.from + j)) (c.deref_mut.ensures.value ∙ ap (λ (b : Bins). b.bytes) c.self.view_is)),
    )
