-- Changes that are replayed on one hive's tree in two parts.
use Rattle.std.proofs.Common.{◌≡◌, ◌∙◌, List, [], ◌++◌, refl, ap, subst, Some}
use Rattle.crash_model.specs.Changes.{replay}
use Rattle.crash_model.proofs.Replays.{replay_on}
use Rattle.change_codec.specs.ModelChanges.{TimedOp, tree_rules}
use Rattle.commit_journal.specs.Numbered.{NumberedChange}
use Rattle.recovery.specs.Replays.{ops_lacked}
use Rattle.recovery.specs.ReplayLaws.{lacked_append}
use Rattle.store_hive.specs.Replays.{ReplaysOnHive}
use Rattle.store_hive.specs.declared.hive_replay.HiveReplay.{HiveReplay}

pub replays_none : (hive : HiveReplay) → ReplaysOnHive hive hive []
replays_none hive = record { hive = refl; number = refl; tree = refl }

pub replays_more : (before between after : HiveReplay) (front rest : List NumberedChange) → ReplaysOnHive before between front → ReplaysOnHive between after rest → ReplaysOnHive before after (front ++ rest)
replays_more before between after front rest one two =
    let h = before.hive in
    let k = before.number in
    let then : replay tree_rules (ops_lacked h k rest) between.tree ≡ Some after.tree
    = subst (λ n. replay tree_rules (ops_lacked n k rest) between.tree ≡ Some after.tree) one.hive
    (subst (λ n. replay tree_rules (ops_lacked between.hive n rest) between.tree ≡ Some after.tree) one.number two.tree) in
    record {
      hive = two.hive ∙ one.hive;
      number = two.number ∙ one.number;
      tree = ap (λ (ops : List TimedOp). replay tree_rules ops before.tree) (lacked_append h k front rest)
          ∙ replay_on tree_rules (ops_lacked h k front) (ops_lacked h k rest) before.tree between.tree one.tree
          ∙ then;
    }
