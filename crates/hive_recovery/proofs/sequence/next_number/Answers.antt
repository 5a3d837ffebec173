use Rattle.std.proofs.Common.{length, map}
use Rattle.hive_recovery.specs.Limits.{usable, next_of}
use Rattle.hive_recovery.proofs.Orders.{next_round}
use Rattle.hive_recovery.proofs.sequence.next_number.Goals as goal

pub rounds-preserved : goal.rounds-preserved
rounds-preserved c =
    next_round (length c.args.logs.now) c.rounds._round c.args.reach.from.0 c.rounds.next.0 c.number_after_round-next.result.0 (next_of c.args.reach c.args.logs.now) (map (usable c.args.reach.to) c.args.logs.now) c.number_after_round-next.ensures c.rounds-test.true c.rounds.invariant
