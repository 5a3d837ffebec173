use Rattle.std.proofs.Common.{◌≡◌, None, drop}
use Rattle.std.specs.Prelude.{option_map, IfSome}
use Rattle.hive_recovery.specs.Plans.{newest_of}
use Rattle.hive_recovery.specs.Runs.{IsNumbered}
use Rattle.hive_recovery.proofs.planning.newest.Given as goal

abbrev pub invariant-logs : goal.invariant-logs
invariant-logs l =
    (newest_of l.fn.most (option_map (λ log. log.now) l.best) (drop l.index l.logs) ≡ newest_of l.fn.most None l.logs)
    × IfSome l.best (λ log. IsNumbered l.logs l.number log.now)
