use Rattle.std.proofs.Common.{◌≡◌, ◌++◌, ◌∷◌, [], List, drop, ap, ◌∙◌, refl, sym, rules}
use Rattle.published_trees.specs.Published.{Published, published_of}
use Rattle.published_trees.proofs.publication.publish_next.Goals as goal

pub publish_queue-published-requires : goal.publish_queue-published-requires
publish_queue-published-requires g c =
    let made : c.new-snapshot.result ≡ published_of g.O.Origin.book g.O.Origin.trees (c.args.seen.now.list ++ c.args.change.now.value ∷ []) =
    rw (c.new-snapshot.ensures, c.again.ensures, c.add_change.ensures, c.requires.trees, c.requires.book.1) refl in
    let shown : c.append-filled.result.desk.shown.value ≡ published_of g.O.Origin.book g.O.Origin.trees c.args.seen.now.list = search rules in (
      c.new-snapshot.result,
      (drop c.unwrap-taken.result.behind c.unwrap-taken.result.log.items, c.append-filled.ensures.queue),
      ap (λ (p : Published). p.book) made,
      rw made refl,
      (c.args.change.now.value ∷ [], rw (shown, made) refl),
    )

pub returns-in_default-clause-shown : goal.returns-in_default-clause-shown
returns-in_default-clause-shown g c =
    let made : c.new-snapshot.result ≡ published_of g.O.Origin.book g.O.Origin.trees (c.args.seen.now.list ++ c.args.change.now.value ∷ []) =
    rw (c.new-snapshot.ensures, c.again.ensures, c.add_change.ensures, c.requires.trees, c.requires.book.1) refl in
    rw (c.replace.ensures.after)
    (c.publish_queue-published.ensures c.new-snapshot.result (drop c.unwrap-taken.result.behind c.unwrap-taken.result.log.items, c.append-filled.ensures.queue) ∙ made)
