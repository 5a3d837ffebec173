use Rattle.std.proofs.Common.{◌≡◌, replicate}
use Rattle.reg_tree.specs.Fresh.{fresh_tree}
use Rattle.reg_tree.proofs.trees.Trees.new.Given as goal

abbrev pub invariant-loop-hive : goal.invariant-loop-hive
invariant-loop-hive l = l.made.items ≡ replicate l._hive fresh_tree
