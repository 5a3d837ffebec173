-- What a scan of the journal makes of one hive's tree.
use Rattle.std.specs.Prelude.{◌≡◌, ◌⊎◌, List, [], ◌∷◌, Some, None}
use Rattle.refusals.specs.declared.refusal.Refusal.{Refusal}
use Rattle.refusals.specs.declared.refusal.Refusal.TheVariants.{NoMemory, JournalDamaged}
use Rattle.crash_model.specs.Changes.{replay}
use Rattle.change_codec.specs.ModelChanges.{tree_rules}
use Rattle.commit_journal.specs.Numbered.{NumberedChange}
use Rattle.recovery.specs.Replays.{ops_lacked}
use Rattle.store_hive.specs.declared.hive_replay.HiveReplay.{HiveReplay}

-- changes were replayed on the hive's tree: those that the hive lacks, each legal in its turn
pub record ReplaysOnHive (before after : HiveReplay) (changes : List NumberedChange) : Type 0 where
  pub hive : after.hive ≡ before.hive
  pub number : after.number ≡ before.number
  pub tree : replay tree_rules (ops_lacked before.hive before.number changes) before.tree ≡ Some after.tree

-- a change isn't legal on the tree, and the hive lacks it
abbrev pub IsIllegalOnHive : HiveReplay → NumberedChange → Type 0
IsIllegalOnHive its change = replay tree_rules (ops_lacked its.hive its.number (change ∷ [])) its.tree ≡ None

-- why a change is not replayed
abbrev pub NotReplayedOnHive : HiveReplay → NumberedChange → Refusal → Type 0
NotReplayedOnHive its change why = (why ≡ NoMemory) ⊎ ((why ≡ JournalDamaged) × IsIllegalOnHive its change)
