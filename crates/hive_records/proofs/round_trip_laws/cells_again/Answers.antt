use Rattle.hive_records.proofs.KeysAgain.{security_again, no_security, class_again, no_class}
use Rattle.hive_records.proofs.round_trip_laws.cells_again.Goals as goal

pub returns-clause-descriptor : goal.returns-clause-descriptor
returns-clause-descriptor c = λ cells at next previous count descriptor before h g. security_again cells at next previous count descriptor before h g

pub returns-clause-no_descriptor : goal.returns-clause-no_descriptor
returns-clause-no_descriptor c = λ cells. no_security cells

pub returns-clause-class : goal.returns-clause-class
returns-clause-class c = λ cells at class some h. class_again cells at class some h

pub returns-clause-no_class : goal.returns-clause-no_class
returns-clause-no_class c = λ cells at. no_class cells at
