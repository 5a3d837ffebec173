use Rattle.conflicts.proofs.Past.{past_one, orders}
use Rattle.conflicts.proofs.skeleton_laws.either_order.Goals as goal

pub returns-clause-legal : goal.returns-clause-legal
returns-clause-legal c = λ a b s apart l. past_one a b s apart l

pub returns-clause-same : goal.returns-clause-same
returns-clause-same c = λ a b s apart. orders a b s apart
