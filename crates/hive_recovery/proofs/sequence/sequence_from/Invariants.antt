use Rattle.std.proofs.Common.{◌≡◌, ◌++◌, ◌-◌, length, map}
use Rattle.hive_recovery.specs.Runs.{AreRunsOf}
use Rattle.hive_recovery.specs.Limits.{usable, sequence_of}
use Rattle.hive_recovery.specs.Sequences.{in_sequence}
use Rattle.hive_recovery.proofs.sequence.sequence_from.Given as goal

-- what follows in the rounds that are left makes the whole sequence, and the runs are those of the entries so far
abbrev pub invariant-rounds : goal.invariant-rounds
invariant-rounds l =
    (l.entries.items ++ in_sequence (length l.logs - l._round) l.fn.reach.from.0 l.next.0 (map (usable l.fn.reach.to) l.logs)
    ≡ sequence_of l.fn.reach l.logs)
    × AreRunsOf l.fn.reach.to l.logs l.runs.items l.entries.items
