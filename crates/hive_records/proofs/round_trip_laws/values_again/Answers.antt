use Rattle.hive_records.proofs.ValuesAgain.{small_again, large_again}
use Rattle.hive_records.proofs.round_trip_laws.values_again.Goals as goal

pub returns-clause-small : goal.returns-clause-small
returns-clause-small c = λ split cells at value fits few h. small_again split cells at value fits few h

pub returns-clause-large : goal.returns-clause-large
returns-clause-large c = λ split cells at to value fits some few one near h g. large_again split cells at to value fits some few one near h g
