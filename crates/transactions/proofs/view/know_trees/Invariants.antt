use Rattle.std.proofs.Common.{◌≡◌, ℕ, ◌<◌, Some}
use Rattle.std.specs.Prelude.{slice_get}
use Rattle.reg_tree.specs.Maps.{TreeMap, IsTree}
use Rattle.transactions.proofs.view.know_trees.Given as goal

abbrev pub invariant-loop-hive : goal.invariant-loop-hive
invariant-loop-hive l = (hive : ℕ) (tree : TreeMap) → hive < l.hive → slice_get l.trees hive ≡ Some tree → IsTree tree
