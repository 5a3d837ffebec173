use Rattle.hive_records.proofs.Samples.{nameless_refused, alike_refused, twice_refused, itself_refused, lent_refused}
use Rattle.hive_records.proofs.example_laws.each_fault.Goals as goal

pub returns-clause-nameless : goal.returns-clause-nameless
returns-clause-nameless c = nameless_refused

pub returns-clause-alike : goal.returns-clause-alike
returns-clause-alike c = alike_refused

pub returns-clause-twice : goal.returns-clause-twice
returns-clause-twice c = twice_refused

pub returns-clause-itself : goal.returns-clause-itself
returns-clause-itself c = itself_refused

pub returns-clause-lent : goal.returns-clause-lent
returns-clause-lent c = lent_refused
