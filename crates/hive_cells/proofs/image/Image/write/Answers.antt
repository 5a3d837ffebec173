use Rattle.std.proofs.Common.{◌+◌, length, ap, ◌∙◌, arith, rules}
use Rattle.std.proofs.lemmas.List.{with_items_is}
use Rattle.hive_cells.specs.Bins.{Bins}
use Rattle.hive_cells.specs.Tiles.{IsAllocatedCell}
use Rattle.hive_cells.proofs.Images.{write_all}
use Rattle.hive_cells.proofs.image.Image.write.Goals as goal

pub invariant_of-self : goal.invariant_of-self
invariant_of-self c =
    let found : IsAllocatedCell c.args.self.now.bytes c.args.offset = c.if-not-is_allocated.ensures.found.0 (search rules) in
    rw (with_items_is c.self.inside.bytes c.put_bytes.new.bytes (c.put_bytes.ensures.written.len ∙ c.deref_mut.ensures.len))
    (write_all c.self.inside.bytes.items c.args.self.now.bytes c.deref_mut.result.now c.put_bytes.new.bytes c.self.inside.starts.items c.self.inside.free c.self.inside.spare c.self.inside.bytes.cap c.self.inside.starts.cap c.args.offset (c.args.offset + 4 + c.args.at) (length c.args.source.now)
    (ap (λ (b : Bins). b.bytes) c.self.view_is) c.deref_mut.ensures.value c.self.invariant found (omega arith) (omega (arith, c.requires found)) c.put_bytes.ensures.written).0

pub returns-clause-written : goal.returns-clause-written
returns-clause-written c =
    let found : IsAllocatedCell c.args.self.now.bytes c.args.offset = c.if-not-is_allocated.ensures.found.0 (search rules) in
    rw (with_items_is c.self.inside.bytes c.put_bytes.new.bytes (c.put_bytes.ensures.written.len ∙ c.deref_mut.ensures.len)) (
      (write_all c.self.inside.bytes.items c.args.self.now.bytes c.deref_mut.result.now c.put_bytes.new.bytes c.self.inside.starts.items c.self.inside.free c.self.inside.spare c.self.inside.bytes.cap c.self.inside.starts.cap c.args.offset (c.args.offset + 4 + c.args.at) (length c.args.source.now)
          (ap (λ (b : Bins). b.bytes) c.self.view_is) c.deref_mut.ensures.value c.self.invariant found (omega arith) (omega (arith, c.requires found)) c.put_bytes.ensures.written).1,
      c.put_bytes.ensures.encoding,
    )
