use Rattle.std.proofs.Common.{ap, ◌∙◌, arith}
use Rattle.std.proofs.lemmas.List.{with_items_is}
use Rattle.hive_cells.specs.Bins.{Bins}
use Rattle.hive_cells.proofs.Images.{join_all}
use Rattle.hive_cells.proofs.image.Image.join.Goals as goal

pub invariant_of-self : goal.invariant_of-self
invariant_of-self c =
    rw (with_items_is c.self.inside.bytes c.put_size.new.bytes (c.put_size.ensures.len ∙ c.deref_mut.ensures.len), with_items_is c.self.inside.starts c.set_start_bit.new.starts (c.set_start_bit.ensures.len ∙ c.deref_mut-2.ensures.len))
    (join_all c.self.inside.bytes.items c.args.self.now.bytes c.deref_mut.result.now c.put_size.new.bytes c.self.inside.starts.items c.deref_mut-2.result.now c.set_start_bit.new.starts c.self.inside.free c.note.new.self
    c.self.inside.spare c.self.inside.bytes.cap c.self.inside.starts.cap c.args.at c.args.next _
    (ap (λ (b : Bins). b.bytes) c.self.view_is) c.deref_mut.ensures.value c.deref_mut-2.ensures.value c.self.invariant c.requires.free c.requires.next_free c.requires.behind (omega (arith, c.size_at.ensures.size, c.size_at-2.ensures.size))
    c.put_size.ensures c.set_start_bit.ensures c.note.ensures).0

pub returns-clause-joined : goal.returns-clause-joined
returns-clause-joined c =
    rw (with_items_is c.self.inside.bytes c.put_size.new.bytes (c.put_size.ensures.len ∙ c.deref_mut.ensures.len))
    (join_all c.self.inside.bytes.items c.args.self.now.bytes c.deref_mut.result.now c.put_size.new.bytes c.self.inside.starts.items c.deref_mut-2.result.now c.set_start_bit.new.starts c.self.inside.free c.note.new.self
    c.self.inside.spare c.self.inside.bytes.cap c.self.inside.starts.cap c.args.at c.args.next _
    (ap (λ (b : Bins). b.bytes) c.self.view_is) c.deref_mut.ensures.value c.deref_mut-2.ensures.value c.self.invariant c.requires.free c.requires.next_free c.requires.behind (omega (arith, c.size_at.ensures.size, c.size_at-2.ensures.size))
    c.put_size.ensures c.set_start_bit.ensures c.note.ensures).1
