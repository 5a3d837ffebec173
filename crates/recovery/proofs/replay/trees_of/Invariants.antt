use Rattle.std.proofs.Common.{◌≡◌, ◌≤◌, length, map, take}
use Rattle.std.specs.Prelude.{vec_capacity}
use Rattle.reg_tree.specs.Sequences.{AreTrees}
use Rattle.hive_flush.specs.HiveStates.{memory_of}
use Rattle.recovery.proofs.replay.trees_of.Given as goal

abbrev pub invariant-loop-hive : goal.invariant-loop-hive
invariant-loop-hive l = record {
  trees : l.trees.items ≡ map (λ hive. (memory_of hive).0) (take l.hive-index l.hives);
  room : length l.hives ≤ vec_capacity l.trees;
  are : AreTrees l.trees.items;
}
