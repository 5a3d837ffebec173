use Rattle.std.proofs.Common.{length, ap, sym, ◌∙◌}
use Rattle.dirty_vector.specs.Marks.{is_marked}
use Rattle.dirty_vector.specs.Pages.{Pages, is_dirty, bitmap_of}
use Rattle.dirty_vector.proofs.Sets.{dirty_is_marked, same_bitmap}
use Rattle.dirty_vector.proofs.vector.DirtyVector.write.Goals as goal

pub returns : goal.returns
returns c =
    let v = c.args.self.now in
    let words = c.self.inside.words.items in
    let n = length c.args.bitmap.now in
    c.write_bitmap.ensures
    ∙ ap (λ ws. bitmap_of (is_marked ws) n) c.deref.ensures.value
    ∙ same_bitmap (is_marked words) (is_dirty v) n (λ p. sym (dirty_is_marked c.self.inside.bins_size words c.self.invariant p) ∙ ap (λ (u : Pages). is_dirty u p) c.self.view_is)
    ∙ ap (bitmap_of (is_dirty v)) c.requires
