use Rattle.std.proofs.Common.{◌≡◌, drop}
use Rattle.crash_model.specs.Changes.{applied, ops_on}
use Rattle.change_codec.specs.ModelChanges.{tree_rules, timed_elements}
use Rattle.hive_flush.specs.Replays.{EncodesIfDone}
use Rattle.hive_flush.proofs.change_replay.replay_changes.Given as goal

abbrev pub invariant-loop-change : goal.invariant-loop-change
invariant-loop-change l = record {
  tree : applied tree_rules (ops_on l.hive (timed_elements (drop l.change-index l.changes))) l.made.tree ≡ applied tree_rules (ops_on l.hive (timed_elements l.changes)) l.fn.start.tree;
  encodes : EncodesIfDone l.made.edit l.image.bytes l.root l.made.tree;
  saved : l.image.saved ≡ l.fn.image.saved;
}
