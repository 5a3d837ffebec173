use Rattle.hive_records.proofs.ManyAgain.{values_back, indirect_back}
use Rattle.hive_records.proofs.WholesAgain.{no_values, no_subkeys}
use Rattle.hive_records.proofs.round_trip_laws.many_again.Goals as goal

pub returns-clause-no_values : goal.returns-clause-no_values
returns-clause-no_values c = λ split cells list. no_values split cells list

pub returns-clause-no_subkeys : goal.returns-clause-no_subkeys
returns-clause-no_subkeys c = λ cells list. no_subkeys cells list

pub returns-clause-values : goal.returns-clause-values
returns-clause-values c = λ split cells list values some are apart given h. values_back split cells list values some are apart given h

pub returns-clause-leaves : goal.returns-clause-leaves
returns-clause-leaves c = λ cells list leaves some few are given h. indirect_back cells list leaves some few are given h
