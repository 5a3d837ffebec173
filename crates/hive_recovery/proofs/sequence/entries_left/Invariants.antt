use Rattle.std.proofs.Common.{◌≡◌, drop}
use Rattle.hive_recovery.specs.Sequences.{left_from}
use Rattle.hive_recovery.proofs.sequence.entries_left.Given as goal

abbrev pub invariant-entries : goal.invariant-entries
invariant-entries l = left_from l.fn.from.0 (drop l.index l.entries) ≡ left_from l.fn.from.0 l.entries
