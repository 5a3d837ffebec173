use Rattle.std.proofs.Common.{◌≡◌, ◌-◌, length, map}
use Rattle.hive_recovery.specs.Limits.{usable, next_of}
use Rattle.hive_recovery.specs.Sequences.{in_sequence, number_behind}
use Rattle.hive_recovery.proofs.sequence.next_number.Given as goal

-- the rounds that are left lead to the same number
abbrev pub invariant-rounds : goal.invariant-rounds
invariant-rounds l = number_behind l.next.0 (in_sequence (length l.logs - l._round) l.fn.reach.from.0 l.next.0 (map (usable l.fn.reach.to) l.logs)) ≡ next_of l.fn.reach l.logs
