use Rattle.std.proofs.Common.{◌≡◌, sym, ◌∙◌, ap}
use Rattle.published_trees.proofs.Adding.{adds_moves}
use Rattle.published_trees.proofs.change_list.SeenChanges.add.Goals as goal

pub compare_exchange-found-requires : goal.compare_exchange-found-requires
compare_exchange-found-requires c =
    let h = c.count.invariant in
    let offer = c.plain-offer.ensures in
    let pen = c.no_pen-pen.ensures in
    let b : c.self.inside.seen.book ≡ c.count.inside.word.book = ap (λ t. t.book) c.self.view_is ∙ (sym c.requires.book ∙ sym c.count.view_is) in (
      ap (λ w. w.tracked) h,
      b,
      pen.0 ∙ b,
      offer.0,
      rw (ap (λ w. w.key) h, pen.1, offer.1, offer.3) (adds_moves c.self.inside.seen.log c.args.change.now.value c.self.inside.count (sym c.self.invariant)),
    )
