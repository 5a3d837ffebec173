use Rattle.std.proofs.Common.{◌≡◌, drop}
use Rattle.reg_names.specs.Names.{folded}
use Rattle.hive_records.specs.ListEncodings.{hash_from}
use Rattle.hive_records.proofs.hashes.name_hash.Given as goal

abbrev pub invariant-loop-unit : goal.invariant-loop-unit
invariant-loop-unit l = hash_from l.hash (folded (drop l.unit-index l.name)) ≡ hash_from 0 (folded l.name)
