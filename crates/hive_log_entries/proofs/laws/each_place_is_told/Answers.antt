use Rattle.hive_log_entries.proofs.Readings.{some_reading, no_both, one_entry, one_end}
use Rattle.hive_log_entries.proofs.laws.each_place_is_told.Goals as goal

pub returns : goal.returns
returns c = record { some = some_reading; either = no_both; one = one_entry; one_end = one_end }
