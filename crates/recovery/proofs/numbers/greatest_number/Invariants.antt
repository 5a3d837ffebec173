use Rattle.std.proofs.Common.{◌≡◌, drop}
use Rattle.std.specs.Prelude.{max}
use Rattle.recovery.specs.Reading.{greatest}
use Rattle.recovery.proofs.numbers.greatest_number.Given as goal

abbrev pub invariant-loop-hive : goal.invariant-loop-hive
invariant-loop-hive l = max l.greatest (greatest (drop l.hive-index l.hives)) ≡ greatest l.hives
