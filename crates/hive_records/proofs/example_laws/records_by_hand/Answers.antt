use Rattle.std.proofs.Common.{refl}
use Rattle.hive_records.proofs.ChildAgain.{child_again}
use Rattle.hive_records.proofs.example_laws.records_by_hand.Goals as goal

pub returns-clause-root : goal.returns-clause-root
returns-clause-root c = refl

pub returns-clause-child : goal.returns-clause-child
returns-clause-child c = refl

pub returns-clause-value : goal.returns-clause-value
returns-clause-value c = refl

pub returns-clause-values : goal.returns-clause-values
returns-clause-values c = refl

pub returns-clause-lists : goal.returns-clause-lists
returns-clause-lists c = refl

pub returns-clause-security : goal.returns-clause-security
returns-clause-security c = refl

pub returns-clause-wide : goal.returns-clause-wide
returns-clause-wide c = refl

pub returns-clause-reads : goal.returns-clause-reads
returns-clause-reads c = child_again
