use Rattle.std.proofs.Common.{ℕ, Bool, ap, ◌⊎◌, ◌↔◌, IsTrue, subst}
use Rattle.dirty_vector.specs.Pages.{Pages, is_dirty, Touches}
use Rattle.dirty_vector.proofs.Sets.{same_in_larger}
use Rattle.dirty_vector.proofs.vector.DirtyVector.grow.Goals as goal

pub returns-clause-pages : goal.returns-clause-pages
returns-clause-pages c = λ page.
    let new = c.mark.new.self in
    let old = c.args.self.now in
    let size = c.self.inside.bins_size in
    subst (λ (n : ℕ). IsTrue (is_dirty new page) ↔ (IsTrue (is_dirty old page) ⊎ Touches n c.args.bins_size page)) (ap (λ (u : Pages). u.bins_size) c.self.view_is)
    (subst (λ (b : Bool). IsTrue (is_dirty new page) ↔ (IsTrue b ⊎ Touches size c.args.bins_size page))
    (same_in_larger size c.args.bins_size c.self.inside.words.items old c.self.invariant c.self.view_is c.requires.size c.requires.larger page)
    (c.mark.ensures.pages page))
