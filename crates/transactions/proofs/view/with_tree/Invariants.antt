use Rattle.std.proofs.Common.{◌≡◌, take, slice_set}
use Rattle.transactions.proofs.view.with_tree.Given as goal

abbrev pub invariant-loop-at : goal.invariant-loop-at
invariant-loop-at l = l.made.items ≡ take l.at (slice_set l.trees l.hive l.tree)
