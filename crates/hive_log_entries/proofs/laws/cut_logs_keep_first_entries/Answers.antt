use Rattle.std.proofs.Common.{None}
use Rattle.hive_log_entries.proofs.Extended.{goes_on_from}
use Rattle.hive_log_entries.proofs.laws.cut_logs_keep_first_entries.Goals as goal

pub returns : goal.returns
returns c = λ log more entries others ended_at other_at end other one two. goes_on_from log more 512 None entries others ended_at other_at end other one two
