use Rattle.std.proofs.Common.{length, ap, ◌∙◌, arith}
use Rattle.std.proofs.lemmas.List.{with_items_is}
use Rattle.hive_cells.specs.Bins.{Bins}
use Rattle.hive_cells.proofs.Images.{bin_all}
use Rattle.hive_cells.proofs.image.Image.lengthen.Goals as goal

pub invariant_of-self-2 : goal.invariant_of-self-2
invariant_of-self-2 c =
    rw (with_items_is c.grow.new.bytes c.lay_bin.new.bytes (c.lay_bin.ensures.len ∙ c.deref_mut.ensures.len), with_items_is c.grow.new.starts c.set_start_bit.new.starts (c.set_start_bit.ensures.len ∙ c.deref_mut-2.ensures.len))
    (bin_all c.self.inside.bytes.items c.args.self.now.bytes c.deref_mut.result.now c.lay_bin.new.bytes c.self.inside.starts.items c.deref_mut-2.result.now c.set_start_bit.new.starts c.self.inside.free c.note.new.self
    c.self.inside.spare c.saturating_sub-self-inside.result c.self.inside.bytes.cap c.self.inside.starts.cap c.grow.new.bytes.cap c.grow.new.starts.cap c.args.size c.len-at.result
    (ap (λ (b : Bins). b.bytes) c.self.view_is) (omega (arith, c.len-at.ensures, c.self.inside.bytes.ok.0)) c.self.invariant c.requires.pages c.requires.some (omega (arith, c.requires.limit, c.len-at.ensures, c.self.inside.bytes.ok.0, ap (λ (b : Bins). length b.bytes) c.self.view_is))
    (c.deref_mut.ensures.value ∙ c.in_ok-grow.ensures.bytes) (c.deref_mut-2.ensures.value ∙ c.in_ok-grow.ensures.starts) c.set_start_bit.ensures c.lay_bin.ensures c.note.ensures
    c.saturating_sub-self-inside.ensures c.in_ok-grow.ensures.room c.in_ok-grow.ensures.starts_room (omega (arith, c.lay_bin.ensures.len, c.deref_mut.ensures.len, c.grow.new.bytes.ok.1)) (omega (arith, c.set_start_bit.ensures.len, c.deref_mut-2.ensures.len, c.grow.new.starts.ok.1))).0

pub returns-clause-added : goal.returns-clause-added
returns-clause-added c =
    rw (with_items_is c.grow.new.bytes c.lay_bin.new.bytes (c.lay_bin.ensures.len ∙ c.deref_mut.ensures.len))
    (bin_all c.self.inside.bytes.items c.args.self.now.bytes c.deref_mut.result.now c.lay_bin.new.bytes c.self.inside.starts.items c.deref_mut-2.result.now c.set_start_bit.new.starts c.self.inside.free c.note.new.self
    c.self.inside.spare c.saturating_sub-self-inside.result c.self.inside.bytes.cap c.self.inside.starts.cap c.grow.new.bytes.cap c.grow.new.starts.cap c.args.size c.len-at.result
    (ap (λ (b : Bins). b.bytes) c.self.view_is) (omega (arith, c.len-at.ensures, c.self.inside.bytes.ok.0)) c.self.invariant c.requires.pages c.requires.some (omega (arith, c.requires.limit, c.len-at.ensures, c.self.inside.bytes.ok.0, ap (λ (b : Bins). length b.bytes) c.self.view_is))
    (c.deref_mut.ensures.value ∙ c.in_ok-grow.ensures.bytes) (c.deref_mut-2.ensures.value ∙ c.in_ok-grow.ensures.starts) c.set_start_bit.ensures c.lay_bin.ensures c.note.ensures
    c.saturating_sub-self-inside.ensures c.in_ok-grow.ensures.room c.in_ok-grow.ensures.starts_room (omega (arith, c.lay_bin.ensures.len, c.deref_mut.ensures.len, c.grow.new.bytes.ok.1)) (omega (arith, c.set_start_bit.ensures.len, c.deref_mut-2.ensures.len, c.grow.new.starts.ok.1))).1
