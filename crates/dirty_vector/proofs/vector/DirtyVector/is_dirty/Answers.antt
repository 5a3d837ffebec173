use Rattle.std.proofs.Common.{ap, sym, ◌∙◌}
use Rattle.std.proofs.lemmas.Bool.{le-ltb}
use Rattle.dirty_vector.specs.Pages.{Pages, is_dirty}
use Rattle.dirty_vector.proofs.Sets.{dirty_is_marked}
use Rattle.dirty_vector.proofs.vector.DirtyVector.is_dirty.Goals as goal

pub returns-then-page-self : goal.returns-then-page-self
returns-then-page-self c =
    rw (c.is_page_marked.ensures, c.deref.ensures.value) (sym (dirty_is_marked c.self.inside.bins_size c.self.inside.words.items c.self.invariant c.args.page) ∙ ap (λ (v : Pages). is_dirty v c.args.page) c.self.view_is)

pub returns-else-page-self : goal.returns-else-page-self
returns-else-page-self c =
    let past = c.if-page-self.false in
    let none = c.self.invariant.inside c.args.page past in
    le-ltb _ _ past ∙ sym none ∙ sym (dirty_is_marked c.self.inside.bins_size c.self.inside.words.items c.self.invariant c.args.page) ∙ ap (λ (v : Pages). is_dirty v c.args.page) c.self.view_is
