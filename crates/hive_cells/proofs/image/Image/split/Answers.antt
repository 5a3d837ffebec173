use Rattle.std.proofs.Common.{ap, ◌∙◌, arith}
use Rattle.std.proofs.lemmas.List.{with_items_is}
use Rattle.hive_cells.specs.Bins.{Bins}
use Rattle.hive_cells.proofs.Images.{split_all}
use Rattle.hive_cells.proofs.image.Image.split.Goals as goal

pub invariant_of-self : goal.invariant_of-self
invariant_of-self c =
    rw (with_items_is c.self.inside.bytes c.put_two_sizes.new.bytes (c.put_two_sizes.ensures.2.len ∙ c.put_two_sizes.ensures.1.len ∙ c.deref_mut.ensures.len), with_items_is c.self.inside.starts c.set_start_bit.new.starts (c.set_start_bit.ensures.len ∙ c.deref_mut-2.ensures.len))
    (split_all c.self.inside.bytes.items c.args.self.now.bytes c.deref_mut.result.now c.put_two_sizes.new.bytes c.self.inside.starts.items c.deref_mut-2.result.now c.set_start_bit.new.starts c.self.inside.free c.note.new.self
    c.self.inside.spare c.self.inside.bytes.cap c.self.inside.starts.cap c.args.at c.args.size _
    (ap (λ (b : Bins). b.bytes) c.self.view_is) c.deref_mut.ensures.value c.deref_mut-2.ensures.value c.self.invariant c.requires.free (omega (arith, c.size_at.ensures.size, c.requires.rest)) c.requires.eights c.requires.least (omega (arith, c.size_at.ensures.size, c.requires.rest))
    c.put_two_sizes.ensures c.set_start_bit.ensures c.note.ensures).0

pub returns-clause-split : goal.returns-clause-split
returns-clause-split c =
    rw (with_items_is c.self.inside.bytes c.put_two_sizes.new.bytes (c.put_two_sizes.ensures.2.len ∙ c.put_two_sizes.ensures.1.len ∙ c.deref_mut.ensures.len))
    (split_all c.self.inside.bytes.items c.args.self.now.bytes c.deref_mut.result.now c.put_two_sizes.new.bytes c.self.inside.starts.items c.deref_mut-2.result.now c.set_start_bit.new.starts c.self.inside.free c.note.new.self
    c.self.inside.spare c.self.inside.bytes.cap c.self.inside.starts.cap c.args.at c.args.size _
    (ap (λ (b : Bins). b.bytes) c.self.view_is) c.deref_mut.ensures.value c.deref_mut-2.ensures.value c.self.invariant c.requires.free (omega (arith, c.size_at.ensures.size, c.requires.rest)) c.requires.eights c.requires.least (omega (arith, c.size_at.ensures.size, c.requires.rest))
    c.put_two_sizes.ensures c.set_start_bit.ensures c.note.ensures).1
