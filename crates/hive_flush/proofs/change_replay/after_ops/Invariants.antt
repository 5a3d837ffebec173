use Rattle.std.proofs.Common.{◌≡◌, drop, map}
use Rattle.crash_model.specs.Changes.{applied, on_hive}
use Rattle.change_codec.specs.ModelChanges.{tree_rules, timed}
use Rattle.hive_flush.specs.Replays.{EncodesIfDone}
use Rattle.hive_flush.proofs.change_replay.after_ops.Given as goal

abbrev pub invariant-loop-op : goal.invariant-loop-op
invariant-loop-op l = record {
  tree : applied tree_rules (on_hive l.hive (map (timed l.moment) (drop l.op-index l.ops))) l.made.tree ≡ applied tree_rules (on_hive l.hive (map (timed l.moment) l.ops)) l.fn.start.tree;
  encodes : EncodesIfDone l.made.edit l.image.bytes l.root l.made.tree;
  saved : l.image.saved ≡ l.fn.image.saved;
}
