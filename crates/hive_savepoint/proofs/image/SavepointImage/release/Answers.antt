use Rattle.std.proofs.Common.{◌≡◌, ◌⊎◌, ℕ, ◌*◌, ◌<◌, false, List, length, take, drop, slice_index, ap, subst, ◌∙◌}
use Rattle.std.specs.Prelude.{IsTrue, ◌↔◌}
use Rattle.dirty_vector.specs.Pages.{is_dirty, Touches}
use Rattle.hive_savepoint.specs.Savepoints.{SavedBytes}
use Rattle.hive_savepoint.specs.SavedPages.{LeadsBack}
use Rattle.hive_savepoint.proofs.WaysBack.{marked_all}
use Rattle.hive_savepoint.proofs.image.SavepointImage.release.Goals as goal

pub returns-clause-marks : goal.returns-clause-marks
returns-clause-marks c =
    let back : LeadsBack c.args.self.now.saved c.args.self.now.bytes c.self.inside.log c.self.inside.limit = rw (← c.self.view_is) c.self.invariant in
    let len : c.len-len.result ≡ length c.args.self.now.bytes = c.len-len.ensures ∙ ap (λ (b : SavedBytes). length b.bytes) c.self.view_is in
    let grew : (page : ℕ) → IsTrue (is_dirty c.grow.new.self page) ↔ (IsTrue (is_dirty c.args.pages.now page) ⊎ Touches c.args.pages.now.bins_size (length c.args.self.now.bytes) page) =
    subst (λ (n : ℕ). (page : ℕ) → IsTrue (is_dirty c.grow.new.self page) ↔ (IsTrue (is_dirty c.args.pages.now page) ⊎ Touches c.args.pages.now.bins_size n page)) len c.grow.ensures.pages in
    let log = c.self.inside.log in
    let lent : c.bytes.result.now ≡ c.args.self.now.bytes = c.bytes.ensures.all ∙ ap (λ (b : SavedBytes). b.bytes) c.self.view_is in
    let alike : (k : ℕ) → k < length log.order → is_dirty c.mark.new.pages (slice_index log.order k) ≡ false → take 512 (drop (512 * slice_index log.order k) c.args.self.now.bytes) ≡ take 512 (drop (512 * k) log.bytes) =
    subst (λ (l : List ℕ). (k : ℕ) → k < length log.order → is_dirty c.mark.new.pages (slice_index log.order k) ≡ false → take 512 (drop (512 * slice_index log.order k) l) ≡ take 512 (drop (512 * k) log.bytes)) lent c.mark.ensures.same in
    marked_all c.args.self.now.saved c.args.self.now.bytes log c.self.inside.limit c.args.pages.now c.grow.new.self c.mark.new.pages back c.requires (c.grow.ensures.size ∙ len) c.mark.ensures.size grew c.mark.ensures.kept alike
