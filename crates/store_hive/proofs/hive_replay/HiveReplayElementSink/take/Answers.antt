use Rattle.std.proofs.Common.{◌∙◌, sym}
use Rattle.store_hive.proofs.ReplaySteps.{replays_elsewhere, replays_held}
use Rattle.store_hive.proofs.hive_replay.HiveReplayElementSink.take.Goals.{then-number-self-via-then-number-self, then-number-self-via-else-number-self+then-not-is_on}
use Rattle.store_hive.proofs.hive_replay.HiveReplayElementSink.take.Goals as goal

pub returns-then-number-self-clause-taken : goal.returns-then-number-self-clause-taken
returns-then-number-self-clause-taken c = elim c.then-number-self.branch [
  | then-number-self-via-then-number-self w ↦ replays_held c.args.self.now c.args.number c.args.change w.if-number-self.true
  | then-number-self-via-else-number-self+then-not-is_on w ↦ replays_elsewhere c.args.self.now c.args.number c.args.change (sym w.is_on.ensures ∙ w.if-not-is_on.true)
]
