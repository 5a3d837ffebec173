use Rattle.hive_records.proofs.RecordReaders.{descriptor_out, descriptor_on}
use Rattle.hive_records.proofs.joined_laws.descriptors_go_on.Goals as goal

pub returns-clause-refused : goal.returns-clause-refused
returns-clause-refused c = descriptor_out

pub returns-clause-read : goal.returns-clause-read
returns-clause-read c = descriptor_on
