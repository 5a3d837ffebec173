use Rattle.std.proofs.Common.{length, List, ℕ, ◌-◌, ◌++◌}
use Rattle.hive_log_entries.specs.Logs.{EntriesFrom, EntriesAre}
use Rattle.hive_log_entries.specs.declared.entry_end.LogEnd.{LogEnd}
use Rattle.hive_log_entries.proofs.log_reader.entries.Given as goal

-- what stands from here on stands behind the entries so far
abbrev pub invariant-entries : goal.invariant-entries
invariant-entries l = (rest : List (List ℕ)) (ended_at : ℕ) (end : LogEnd) → EntriesFrom l.log l.at l.before rest ended_at end → EntriesAre l.log (l.entries.items ++ rest) ended_at end

abbrev pub decreases-entries : goal.decreases-entries
decreases-entries l = length l.log - l.at
