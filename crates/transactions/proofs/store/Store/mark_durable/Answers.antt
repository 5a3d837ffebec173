use Rattle.std.proofs.Common.{rules}
use Rattle.transactions.proofs.store.Store.mark_durable.Goals as goal

pub returns-clause-machine : goal.returns-clause-machine
returns-clause-machine c = search rules
