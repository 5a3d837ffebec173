use Rattle.std.proofs.Common.{ap}
use Rattle.std.specs.Prelude.{nat_le}
use Rattle.transactions.specs.Stores.{StoreView}
use Rattle.transactions.proofs.store.Store.is_durable.Goals as goal

pub returns : goal.returns
returns c = ap (λ (v : StoreView). nat_le c.args.number v.machine.durable) c.self.view_is
