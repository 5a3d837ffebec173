use Rattle.std.proofs.Common.{ℕ, List, ap, sym, ◌∙◌, arith}
use Rattle.dirty_vector.specs.Marks.{is_marked}
use Rattle.dirty_vector.proofs.Sets.{none_past, none_more, next_kept}
use Rattle.dirty_vector.proofs.vector.DirtyVector.next_dirty.Goals as goal

pub returns-then-from-pages : goal.returns-then-from-pages
returns-then-from-pages c = none_past c.self.inside.bins_size c.self.inside.words.items c.args.self.now c.args.from c.self.invariant c.self.view_is c.if-from-pages.true

pub returns-then-page-pages : goal.returns-then-page-pages
returns-then-page-pages c =
    let same = c.as_slice-words.ensures.value in
    let page = c.first_page-page.result in
    next_kept c.self.inside.bins_size c.self.inside.words.items c.args.self.now c.args.from page c.self.invariant c.self.view_is
    c.first_page-page.ensures.after c.if-page-pages.true
    (λ p low high. ap (λ (ws : List ℕ). is_marked ws p) (sym same) ∙ c.first_page-page.ensures.before p low high)
    (ap (λ (ws : List ℕ). is_marked ws page) (sym same) ∙ c.first_page-page.ensures.here c.if-page-pages.true)

pub returns-else-page-pages : goal.returns-else-page-pages
returns-else-page-pages c =
    let same = c.as_slice-words.ensures.value in
    let at_end = c.if-page-pages.false in
    none_more c.self.inside.bins_size c.self.inside.words.items c.args.self.now c.args.from c.self.invariant c.self.view_is
    (λ p low high. ap (λ (ws : List ℕ). is_marked ws p) (sym same) ∙ c.first_page-page.ensures.before p low (omega (arith, at_end, high)))
