use Rattle.commit_outcomes.proofs.UnitNames.{named, apart}
use Rattle.commit_outcomes.proofs.laws.units_have_names.Goals as goal

pub returns-clause-named : goal.returns-clause-named
returns-clause-named c = named

pub returns-clause-apart : goal.returns-clause-apart
returns-clause-apart c = apart
