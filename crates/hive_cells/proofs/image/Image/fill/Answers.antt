use Rattle.std.proofs.Common.{◌+◌, ap, ◌∙◌}
use Rattle.std.proofs.lemmas.List.{with_items_is}
use Rattle.hive_cells.specs.Bins.{Bins}
use Rattle.hive_cells.proofs.CellFills.{filled_all}
use Rattle.hive_cells.proofs.image.Image.fill.Goals as goal

pub invariant_of-self : goal.invariant_of-self
invariant_of-self c =
    rw (with_items_is c.self.inside.bytes c.put_filled.new.bytes (c.put_filled.ensures.written.len ∙ c.deref_mut.ensures.len))
    (filled_all c.self.inside.bytes.items c.args.self.now.bytes c.deref_mut.result.now c.put_filled.new.bytes c.self.inside.starts.items c.self.inside.free c.self.inside.spare c.self.inside.bytes.cap c.self.inside.starts.cap c.args.offset (c.args.offset + c.size_at.result) c.args.source.now
    (ap (λ (b : Bins). b.bytes) c.self.view_is) c.deref_mut.ensures.value c.self.invariant c.requires.cell c.requires.room (ap (λ n. c.args.offset + n) c.size_at.ensures.size) c.put_filled.ensures.written c.put_filled.ensures.encoding).0

pub returns-clause-written : goal.returns-clause-written
returns-clause-written c =
    rw (with_items_is c.self.inside.bytes c.put_filled.new.bytes (c.put_filled.ensures.written.len ∙ c.deref_mut.ensures.len))
    (filled_all c.self.inside.bytes.items c.args.self.now.bytes c.deref_mut.result.now c.put_filled.new.bytes c.self.inside.starts.items c.self.inside.free c.self.inside.spare c.self.inside.bytes.cap c.self.inside.starts.cap c.args.offset (c.args.offset + c.size_at.result) c.args.source.now
    (ap (λ (b : Bins). b.bytes) c.self.view_is) c.deref_mut.ensures.value c.self.invariant c.requires.cell c.requires.room (ap (λ n. c.args.offset + n) c.size_at.ensures.size) c.put_filled.ensures.written c.put_filled.ensures.encoding).1

pub returns-clause-data : goal.returns-clause-data
returns-clause-data c =
    rw (with_items_is c.self.inside.bytes c.put_filled.new.bytes (c.put_filled.ensures.written.len ∙ c.deref_mut.ensures.len))
    (filled_all c.self.inside.bytes.items c.args.self.now.bytes c.deref_mut.result.now c.put_filled.new.bytes c.self.inside.starts.items c.self.inside.free c.self.inside.spare c.self.inside.bytes.cap c.self.inside.starts.cap c.args.offset (c.args.offset + c.size_at.result) c.args.source.now
    (ap (λ (b : Bins). b.bytes) c.self.view_is) c.deref_mut.ensures.value c.self.invariant c.requires.cell c.requires.room (ap (λ n. c.args.offset + n) c.size_at.ensures.size) c.put_filled.ensures.written c.put_filled.ensures.encoding).2
