use Rattle.std.proofs.Common.{◌≡◌, drop, map}
use Rattle.crash_model.specs.Changes.{replay, on_hive}
use Rattle.change_codec.specs.ModelChanges.{tree_rules, timed}
use Rattle.store_hive.proofs.replay_changes.after_ops.Given as goal

abbrev pub invariant-loop-op : goal.invariant-loop-op
invariant-loop-op l = replay tree_rules (on_hive l.hive (map (timed l.moment) (drop l.op-index l.ops))) l.made ≡ replay tree_rules (on_hive l.hive (map (timed l.moment) l.ops)) l.fn.tree
