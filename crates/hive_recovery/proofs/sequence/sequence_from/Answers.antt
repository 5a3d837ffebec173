use Rattle.std.proofs.Common.{length, map, refl}
use Rattle.hive_recovery.specs.Limits.{usable}
use Rattle.hive_recovery.specs.Sequences.{first_with, in_sequence}
use Rattle.hive_recovery.proofs.Orders.{one_round}
use Rattle.hive_recovery.proofs.sequence.sequence_from.Goals as goal

pub rounds-preserved : goal.rounds-preserved
rounds-preserved c =
    let logs = map (usable c.args.reach.to) c.args.logs.now in
    let number = c.args.reach.from.0 in
    let next = c.rounds.next.0 in (
      one_round c.rounds.entries.items c.add_round.new.entries.items (first_with number next logs) (in_sequence (length c.args.logs.now) number number logs) logs (length c.args.logs.now) c.rounds._round number next c.in_ok-next.next.0 c.in_ok-next.ensures.entries refl c.in_ok-next.ensures.next c.rounds-test.true c.rounds.invariant.0,
      c.in_ok-next.ensures.runs c.rounds.invariant.1,
    )
