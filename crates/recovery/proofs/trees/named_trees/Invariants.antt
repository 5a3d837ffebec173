use Rattle.std.proofs.Common.{◌≡◌, take}
use Rattle.recovery.proofs.trees.named_trees.Given as goal

-- the trees so far are the first ones
abbrev pub invariant-loop-hive : goal.invariant-loop-hive
invariant-loop-hive l = l.named.items ≡ take l.hive l.trees
