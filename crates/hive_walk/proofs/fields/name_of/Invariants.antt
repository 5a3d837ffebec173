use Rattle.std.proofs.Common.{◌≡◌, length, take}
use Rattle.hive_records.specs.RecordReaders.{units_of}
use Rattle.hive_walk.proofs.fields.name_of.Given as goal

abbrev pub invariant-loop-place : goal.invariant-loop-place
invariant-loop-place l = (l.units.items ≡ take l.place (units_of l.stored)) × (l.place-end ≡ length (units_of l.stored))
