use Rattle.std.proofs.Common.{◌≡◌, drop}
use Rattle.published_trees.proofs.publishing.publish_queue.Given as goal

abbrev pub invariant-loop : goal.invariant-loop
invariant-loop g l = (drop l.writer.behind l.writer.log.items ≡ drop l.fn.writer.behind l.fn.writer.log.items) × (l.writer.desk.shown.value ≡ l.fn.writer.desk.shown.value)
