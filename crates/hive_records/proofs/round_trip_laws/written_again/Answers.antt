use Rattle.hive_records.proofs.WholesAgain.{written_again, all_written}
use Rattle.hive_records.proofs.round_trip_laws.written_again.Goals as goal

pub returns-clause-one : goal.returns-clause-one
returns-clause-one c = λ split cells v h. written_again split cells v h

pub returns-clause-all : goal.returns-clause-all
returns-clause-all c = λ split cells list values some are apart given h. all_written split cells list values some are apart given h
