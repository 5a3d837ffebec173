use Rattle.recovery.specs.Recovered.{seen_in}
use Rattle.recovery.proofs.Beginnings.{after_crashes, all, read_then}
use Rattle.recovery.proofs.laws.openings_lose_nothing.Goals as goal

pub returns-clause-crash : goal.returns-clause-crash
returns-clause-crash c = after_crashes

pub returns-clause-begins : goal.returns-clause-begins
returns-clause-begins c = λ hives first last begins openings. (all hives first last begins openings).0

pub returns-clause-left : goal.returns-clause-left
returns-clause-left c = λ hives first last begins openings. (all hives first last begins openings).1

pub returns-clause-read : goal.returns-clause-read
returns-clause-read c = read_then

pub returns-clause-recovered : goal.returns-clause-recovered
returns-clause-recovered c = λ hives first last begins openings store number trees each. each (seen_in last) (read_then hives first last begins openings)
