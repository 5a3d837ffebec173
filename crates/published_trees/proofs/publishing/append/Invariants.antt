use Rattle.std.proofs.Common.{◌≡◌, drop}
use Rattle.published_trees.proofs.publishing.append.Given as goal

abbrev pub invariant-loop : goal.invariant-loop
invariant-loop g l = (l.next ≡ l.fn.snapshot) × (l.writer.desk ≡ l.fn.writer.desk) × (drop l.writer.behind l.writer.log.items ≡ drop l.fn.writer.behind l.fn.writer.log.items)
