use Rattle.hive_records.proofs.RecordReaders.{big_out, big_on}
use Rattle.hive_records.proofs.joined_laws.big_data_go_on.Goals as goal

pub returns-clause-refused : goal.returns-clause-refused
returns-clause-refused c = big_out

pub returns-clause-read : goal.returns-clause-read
returns-clause-read c = big_on
