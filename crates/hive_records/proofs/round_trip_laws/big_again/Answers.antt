use Rattle.hive_records.proofs.BigAgain.{big_again}
use Rattle.hive_records.proofs.round_trip_laws.big_again.Goals as goal

pub returns : goal.returns
returns c = λ cells at to list value segments fits big small near near_list e full few are h g l held. big_again cells at to list value segments fits big small near near_list e full few are h g l held
