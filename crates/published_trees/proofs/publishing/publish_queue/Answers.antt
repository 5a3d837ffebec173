use Rattle.std.proofs.Common.{◌≡◌, ◌++◌, ◌∷◌, [], List, drop, fold, ap, ◌∙◌, refl, sym}
use mathlib.Core.List.{IsPrefix}
use Rattle.reg_tree.specs.Sequences.{after_elements}
use Rattle.published_trees.specs.Published.{Published}
use Rattle.published_trees.proofs.Views.{begin_step, last_stays}
use Rattle.published_trees.proofs.Prefixes.{prefix_trans}
use Rattle.published_trees.proofs.publishing.publish_queue.Goals as goal

pub publish_as-after-requires : goal.publish_as-after-requires
publish_as-after-requires g c next is views h at =
    let now = c.loop.writer.desk.shown.value in
    let n = c.requires.0 in
    let ends = c.requires.1 in
    let same : next ≡ n = is ∙ (ap (λ (l : List Published). fold (λ (a : Published) (b : Published). b) now l) (c.loop.invariant.0 ∙ ends.1) ∙ last_stays now ends.0 n) in
    let book : next.book ≡ g.O.Origin.book = ap (λ (p : Published). p.book) same ∙ c.requires.2 in
    let trees : next.trees ≡ after_elements g.O.Origin.trees next.list = rw same c.requires.3 in
    let up : IsPrefix now.list next.list = rw (c.loop.invariant.1, same) c.requires.4 in
    (next.list, (book, trees, begin_step now.list next.list views _ up h.2), (book, trees, prefix_trans _ now.list next.list (h.2 _ _ at) up, refl))
