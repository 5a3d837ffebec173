use Rattle.conflicts.proofs.Members.{who, once}
use Rattle.conflicts.proofs.laws.holders_are_exact.Goals as goal

pub returns-clause-who : goal.returns-clause-who
returns-clause-who c = who

pub returns-clause-once : goal.returns-clause-once
returns-clause-once c = once
