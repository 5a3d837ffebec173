use Rattle.std.proofs.Common.{◌≡◌, ◌≤◌, ℕ, ◌∷◌, [], get_or, length, slice_get, Some}
use Rattle.std.specs.Prelude.{vec_capacity}
use Rattle.reg_tree.specs.Maps.{TreeMap}
use Rattle.reg_tree.specs.Sequences.{AreTrees}
use Rattle.crash_model.specs.Changes.{replay}
use Rattle.change_codec.specs.ModelChanges.{tree_rules}
use Rattle.recovery.specs.Replays.{ops_lacked}
use Rattle.recovery.proofs.replay.Replay.trees_with.Given as goal

abbrev pub invariant-loop-hive : goal.invariant-loop-hive
invariant-loop-hive l = record {
  many : length l.made.items ≡ l.hive;
  room : l.self.count ≤ vec_capacity l.made;
  are : AreTrees l.made.items;
  each : (i : ℕ) (was is : TreeMap) → slice_get l.self.trees.items i ≡ Some was → slice_get l.made.items i ≡ Some is → replay tree_rules (ops_lacked i (get_or l.self.numbers.items i 0) ((l.number, l.change) ∷ [])) was ≡ Some is;
}
