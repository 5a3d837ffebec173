use Rattle.std.proofs.Common.{◌≡◌, ◌++◌, drop}
use Rattle.hive_records.specs.ListEncodings.{offsets_bytes}
use Rattle.hive_records.proofs.encoder.put_offsets.Given as goal

abbrev pub invariant-loop-offset : goal.invariant-loop-offset
invariant-loop-offset l = l.bytes.items ++ offsets_bytes (drop l.offset-index l.offsets) ≡ l.initial.bytes.items ++ offsets_bytes l.offsets
