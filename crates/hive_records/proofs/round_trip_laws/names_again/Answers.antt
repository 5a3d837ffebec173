use Rattle.hive_records.specs.NameEncodings.{is_latin}
use Rattle.hive_records.proofs.NamesAgain.{name_back}
use Rattle.hive_records.proofs.round_trip_laws.names_again.Goals as goal

pub returns : goal.returns
returns c = λ cells name h. name_back (is_latin name) cells name h
