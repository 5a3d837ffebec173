use Rattle.std.proofs.Common.{◌≡◌, ◌++◌, ◌∷◌, [], drop, sym, ap, rules}
use Rattle.std.proofs.lemmas.List.{append-nil}
use Rattle.published_trees.specs.Published.{Published, EndsWith}
use Rattle.published_trees.proofs.publishing.publish_first.Goals as goal

pub publish_queue-requires : goal.publish_queue-requires
publish_queue-requires g c =
    let queue : drop c.append.new.self.behind c.append.new.self.log.items ≡ drop c.args.writer.behind c.args.writer.log.items ++ c.args.snapshot ∷ [] = search rules in (
      c.args.snapshot,
      (drop c.args.writer.behind c.args.writer.log.items, queue),
      c.requires.origin.0,
      c.requires.origin.1,
      ([], rw (c.append.ensures.desk, c.requires.same) (append-nil c.args.snapshot.list)),
    )

pub returns : goal.returns
returns g c =
    let queue : drop c.append.new.self.behind c.append.new.self.log.items ≡ drop c.args.writer.behind c.args.writer.log.items ++ c.args.snapshot ∷ [] = search rules in
    c.publish_queue.ensures c.args.snapshot (drop c.args.writer.behind c.args.writer.log.items, queue)
