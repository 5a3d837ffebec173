use Rattle.transactions.proofs.Predictions.{predicted}
use Rattle.transactions.proofs.store.Store.prepare.Goals as goal

pub returns-clause-predicted : goal.returns-clause-predicted
returns-clause-predicted c = predicted _ _ _ _ c.in_ok-ready.ensures.ready
