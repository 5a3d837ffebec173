use Rattle.std.proofs.Common.{◌≤◌, ◌||◌, ◌&&◌, ◌-◌, ◌/◌, nat_le, List, ℕ, ap, ◌∙◌, arith, subst, ◌⊎◌, ◌↔◌, IsTrue}
use Rattle.std.specs.Vec.{with_items}
use Rattle.std.proofs.lemmas.List.{with_items_is}
use Rattle.dirty_vector.specs.Marks.{is_marked}
use Rattle.dirty_vector.specs.Pages.{Pages, is_dirty, Touches}
use Rattle.dirty_vector.specs.MarkWords.{pages_of}
use Rattle.dirty_vector.proofs.Sets.{marked_range}
use Rattle.dirty_vector.proofs.vector.DirtyVector.mark.Goals as goal

pub returns-then-range-clause-pages : goal.returns-then-range-clause-pages
returns-then-range-clause-pages c = λ page.
    let v = c.self.inside.words in
    let size = c.self.inside.bins_size in
    let ws = c.mark_pages.new.words in
    let start = c.args.range.start in
    let end = c.args.range.end in
    let same = with_items_is v ws (omega arith) in
    let inside : end ≤ size = omega (arith, c.requires, ap (λ (u : Pages). u.bins_size) c.self.view_is) in
    let new = (with_items v ws).items in
    subst (λ (u : Pages). IsTrue (is_dirty (pages_of size new) page) ↔ (IsTrue (is_dirty u page) ⊎ Touches start end page)) c.self.view_is
    (marked_range size v.items new start end c.self.invariant c.if-range.true inside
    (λ p. ap (λ (xs : List ℕ). is_marked xs p) same ∙ c.mark_pages.ensures p ∙ ap (λ (xs : List ℕ). is_marked xs p || (nat_le (start / 512) p && nat_le p ((end - 1) / 512))) c.deref_mut.ensures.value) page)
