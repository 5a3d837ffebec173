use Rattle.std.proofs.Common.{◌≡◌, ◌++◌, drop}
use Rattle.hive_records.proofs.encoder.put_latin.Given as goal

abbrev pub invariant-loop-unit : goal.invariant-loop-unit
invariant-loop-unit l = l.bytes.items ++ drop l.unit-index l.name ≡ l.initial.bytes.items ++ l.name
