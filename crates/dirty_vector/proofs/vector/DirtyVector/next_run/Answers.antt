use Rattle.std.proofs.Common.{◌<◌, ◌/◌, ℕ, List, ap, sym, ◌∙◌, arith}
use Rattle.dirty_vector.specs.Marks.{is_marked}
use Rattle.dirty_vector.proofs.Sets.{none_past, none_more, first_run}
use Rattle.dirty_vector.proofs.vector.DirtyVector.next_run.Goals as goal

pub returns-then-from-pages : goal.returns-then-from-pages
returns-then-from-pages c = none_past c.self.inside.bins_size c.self.inside.words.items c.args.self.now c.args.from c.self.invariant c.self.view_is c.if-from-pages.true

pub returns-then-start-pages : goal.returns-then-start-pages
returns-then-start-pages c =
    let same = c.as_slice-words.ensures.value in
    let at_end = c.if-start-pages.true in
    none_more c.self.inside.bins_size c.self.inside.words.items c.args.self.now c.args.from c.self.invariant c.self.view_is
    (λ p low high. ap (λ (ws : List ℕ). is_marked ws p) (sym same) ∙ c.first_page-start.ensures.before p low (omega (arith, at_end, high)))

pub returns : goal.returns
returns c =
    let same = c.as_slice-words.ensures.value in
    let size = c.self.inside.bins_size in
    let words = c.self.inside.words.items in
    let start = c.first_page-start.result in
    let end = c.first_page-end.result in
    let inside : start < size / 512 = omega (arith, c.first_page-start.ensures.within, c.if-start-pages.false) in
    first_run size words c.args.self.now c.args.from start end c.self.invariant c.self.view_is
    c.first_page-start.ensures.after inside
    (λ p low high. ap (λ (ws : List ℕ). is_marked ws p) (sym same) ∙ c.first_page-start.ensures.before p low high)
    (ap (λ (ws : List ℕ). is_marked ws start) (sym same) ∙ c.first_page-start.ensures.here inside)
    c.first_page-end.ensures.after c.first_page-end.ensures.within
    (λ p low high. ap (λ (ws : List ℕ). is_marked ws p) (sym same) ∙ c.first_page-end.ensures.before p low high)
    (λ lt. ap (λ (ws : List ℕ). is_marked ws end) (sym same) ∙ c.first_page-end.ensures.here lt)
