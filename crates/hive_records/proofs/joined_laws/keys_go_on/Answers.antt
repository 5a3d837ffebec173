use Rattle.hive_records.proofs.RecordReaders.{key_out, key_on}
use Rattle.hive_records.proofs.joined_laws.keys_go_on.Goals as goal

pub returns-clause-refused : goal.returns-clause-refused
returns-clause-refused c = key_out

pub returns-clause-read : goal.returns-clause-read
returns-clause-read c = key_on
