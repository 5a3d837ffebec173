use Rattle.hive_records.proofs.WordsAgain.{offsets_length}
use Rattle.hive_records.proofs.Sizes.{name_most, long_key, long_small, long_large, long_security, long_plain, long_hashed, long_indirect}
use Rattle.hive_records.proofs.round_trip_laws.record_lengths.Goals as goal

pub returns-clause-name : goal.returns-clause-name
returns-clause-name c = name_most

pub returns-clause-key : goal.returns-clause-key
returns-clause-key c = long_key

pub returns-clause-small : goal.returns-clause-small
returns-clause-small c = long_small

pub returns-clause-large : goal.returns-clause-large
returns-clause-large c = long_large

pub returns-clause-security : goal.returns-clause-security
returns-clause-security c = long_security

pub returns-clause-plain : goal.returns-clause-plain
returns-clause-plain c = long_plain

pub returns-clause-hashed : goal.returns-clause-hashed
returns-clause-hashed c = long_hashed

pub returns-clause-indirect : goal.returns-clause-indirect
returns-clause-indirect c = long_indirect

pub returns-clause-offsets : goal.returns-clause-offsets
returns-clause-offsets c = offsets_length
