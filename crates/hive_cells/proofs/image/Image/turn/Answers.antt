use Rattle.std.proofs.Common.{ap, ◌∙◌}
use Rattle.std.proofs.lemmas.List.{with_items_is}
use Rattle.hive_cells.specs.Bins.{Bins}
use Rattle.hive_cells.proofs.Images.{turn_all}
use Rattle.hive_cells.proofs.image.Image.turn.Goals as goal

pub invariant_of-self : goal.invariant_of-self
invariant_of-self c =
    rw (with_items_is c.self.inside.bytes c.put_size.new.bytes (c.put_size.ensures.len ∙ c.deref_mut.ensures.len))
    (turn_all c.self.inside.bytes.items c.args.self.now.bytes c.deref_mut.result.now c.put_size.new.bytes c.self.inside.starts.items c.self.inside.free c.note.new.self _ _ _ c.args.at c.size_at-size.result c.args.allocated
    (ap (λ (b : Bins). b.bytes) c.self.view_is) c.deref_mut.ensures.value c.self.invariant c.requires.cell c.size_at-size.ensures.size c.put_size.ensures c.note.ensures).0

pub returns-clause-turned : goal.returns-clause-turned
returns-clause-turned c =
    rw (with_items_is c.self.inside.bytes c.put_size.new.bytes (c.put_size.ensures.len ∙ c.deref_mut.ensures.len))
    (turn_all c.self.inside.bytes.items c.args.self.now.bytes c.deref_mut.result.now c.put_size.new.bytes c.self.inside.starts.items c.self.inside.free c.note.new.self c.self.inside.spare c.self.inside.bytes.cap c.self.inside.starts.cap c.args.at c.size_at-size.result c.args.allocated
    (ap (λ (b : Bins). b.bytes) c.self.view_is) c.deref_mut.ensures.value c.self.invariant c.requires.cell c.size_at-size.ensures.size c.put_size.ensures c.note.ensures).1
