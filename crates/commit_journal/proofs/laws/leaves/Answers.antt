use Rattle.commit_journal.proofs.States.{on_leaves}
use Rattle.commit_journal.proofs.laws.leaves.Goals as goal

pub returns : goal.returns
returns g c = λ t v state on. on_leaves t v state on
