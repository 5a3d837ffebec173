use Rattle.hive_records.proofs.Examples.{root_stands, full_stands}
use Rattle.hive_records.proofs.example_laws.example.Goals as goal

pub returns-clause-one : goal.returns-clause-one
returns-clause-one c = root_stands

pub returns-clause-two : goal.returns-clause-two
returns-clause-two c = full_stands
