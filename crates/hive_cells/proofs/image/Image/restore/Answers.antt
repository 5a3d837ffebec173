use Rattle.std.proofs.Common.{◌≡◌, List, ℕ, take, sym, subst, ap, ◌∙◌}
use Rattle.std.proofs.lemmas.List.{with_items_is}
use Rattle.hive_cells.specs.Bins.{Bins}
use Rattle.hive_cells.specs.Tiles.{Tiles}
use Rattle.hive_cells.proofs.SavedPages.{restored_all, no_fault}
use Rattle.hive_cells.proofs.image.Image.restore.Goals as goal

pub unreachable-requires : goal.unreachable-requires
unreachable-requires c =
    let back : c.truncate.new.self.items ≡ c.requires.0 = c.truncate.ensures.items ∙ ap (take c.args.len) (with_items_is c.self.inside.bytes c.put_pages.new.bytes (c.put_pages.ensures.len ∙ c.deref_mut.ensures.len))
    ∙ restored_all c.self.inside.bytes.items c.args.self.now.bytes c.deref_mut.result.now c.put_pages.new.bytes c.args.order.now c.args.saved.now c.args.len (ap (λ (b : Bins). b.bytes) c.self.view_is) c.deref_mut.ensures.value c.put_pages.ensures.len c.put_pages.ensures.back c.requires.0 c.requires.1 in
    no_fault c.deref.result.now c.in-Err.field-0 (subst (λ (x : List ℕ). Tiles x) (sym (c.deref.ensures.value ∙ back)) c.requires.1.tiles) c.in-Err.ensures

pub returns-clause-bytes : goal.returns-clause-bytes
returns-clause-bytes c old r =
    c.truncate.ensures.items ∙ ap (take c.args.len) (with_items_is c.self.inside.bytes c.put_pages.new.bytes (c.put_pages.ensures.len ∙ c.deref_mut.ensures.len))
    ∙ restored_all c.self.inside.bytes.items c.args.self.now.bytes c.deref_mut.result.now c.put_pages.new.bytes c.args.order.now c.args.saved.now c.args.len (ap (λ (b : Bins). b.bytes) c.self.view_is) c.deref_mut.ensures.value c.put_pages.ensures.len c.put_pages.ensures.back old r
