use Rattle.std.proofs.Common.{◌≡◌, take}
use Rattle.reg_tree.proofs.trees.Trees.try_clone.Given as goal

abbrev pub invariant-loop-tree : goal.invariant-loop-tree
invariant-loop-tree l = l.hives.items ≡ take l.tree-index l.tree-items
