use Rattle.std.proofs.Common.{ap, ◌∙◌}
use Rattle.std.specs.FinSet as set
use Rattle.dirty_vector.specs.Pages.{Pages}
use Rattle.dirty_vector.proofs.Sets.{count_kept, dirty_counted}
use Rattle.dirty_vector.proofs.vector.DirtyVector.count.Goals as goal

pub returns-clause-set : goal.returns-clause-set
returns-clause-set c =
    rw (c.count_marks.ensures, c.deref.ensures.value) (count_kept c.self.inside.bins_size c.self.inside.words.items c.self.invariant ∙ ap (λ (v : Pages). set.len v.dirty) c.self.view_is)

pub returns-clause-pages : goal.returns-clause-pages
returns-clause-pages c =
    rw (c.count_marks.ensures, c.deref.ensures.value) (dirty_counted c.self.inside.bins_size c.self.inside.words.items c.args.self.now c.self.invariant c.self.view_is)
