use Rattle.hive_records.proofs.Samples.{every_stands, big_reads}
use Rattle.hive_records.proofs.example_laws.each_kind.Goals as goal

pub returns-clause-lists : goal.returns-clause-lists
returns-clause-lists c = every_stands

pub returns-clause-big : goal.returns-clause-big
returns-clause-big c = big_reads
