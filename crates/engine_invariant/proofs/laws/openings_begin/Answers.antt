use Rattle.engine_invariant.proofs.Beginning.{begins_told}
use Rattle.engine_invariant.proofs.laws.openings_begin.Goals as goal

pub returns : goal.returns
returns c = λ bounds trees number failures base opened journal hives found few fit. begins_told bounds trees number failures base opened journal hives found few fit c.steps_keep_invariant.ensures.begins
