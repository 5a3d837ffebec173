use Rattle.conflicts.proofs.Members.{added, dropped}
use Rattle.conflicts.proofs.laws.claims_kept.Goals as goal

pub returns-clause-added : goal.returns-clause-added
returns-clause-added c = added

pub returns-clause-dropped : goal.returns-clause-dropped
returns-clause-dropped c = dropped
