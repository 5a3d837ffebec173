use Rattle.std.proofs.Common.{◌≡◌, ◌++◌, drop}
use Rattle.hive_records.specs.NameEncodings.{wide}
use Rattle.hive_records.proofs.encoder.put_wide.Given as goal

abbrev pub invariant-loop-unit : goal.invariant-loop-unit
invariant-loop-unit l = l.bytes.items ++ wide (drop l.unit-index l.name) ≡ l.initial.bytes.items ++ wide l.name
