use Rattle.std.proofs.Common.{None}
use Rattle.hive_log_entries.proofs.Readings.{one_list}
use Rattle.hive_log_entries.proofs.laws.entries_have_one_reading.Goals as goal

pub returns : goal.returns
returns c = λ log entries others ended_at other_at end other one two. one_list log 512 None entries others ended_at other_at end other one two
