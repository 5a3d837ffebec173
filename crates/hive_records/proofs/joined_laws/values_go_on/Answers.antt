use Rattle.hive_records.proofs.RecordReaders.{value_out, value_on}
use Rattle.hive_records.proofs.joined_laws.values_go_on.Goals as goal

pub returns-clause-refused : goal.returns-clause-refused
returns-clause-refused c = value_out

pub returns-clause-read : goal.returns-clause-read
returns-clause-read c = value_on
