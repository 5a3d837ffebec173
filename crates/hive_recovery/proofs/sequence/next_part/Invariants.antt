use Rattle.std.proofs.Common.{◌≡◌, drop, map}
use Rattle.hive_recovery.specs.Limits.{usable}
use Rattle.hive_recovery.specs.Sequences.{first_with}
use Rattle.hive_recovery.proofs.sequence.next_part.Given as goal

abbrev pub invariant-logs : goal.invariant-logs
invariant-logs l = first_with l.fn.reach.from.0 l.fn.next.0 (map (usable l.fn.reach.to) (drop l.index l.logs)) ≡ first_with l.fn.reach.from.0 l.fn.next.0 (map (usable l.fn.reach.to) l.logs)
