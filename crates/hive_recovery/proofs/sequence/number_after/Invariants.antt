use Rattle.std.proofs.Common.{◌≡◌, take}
use Rattle.hive_recovery.specs.Sequences.{number_behind}
use Rattle.hive_recovery.proofs.sequence.number_after.Given as goal

abbrev pub invariant-entries : goal.invariant-entries
invariant-entries l = l.next.0 ≡ number_behind l.fn.other.0 (take l.entry-index l.entries)
