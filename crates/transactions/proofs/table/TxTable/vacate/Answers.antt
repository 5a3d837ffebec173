use Rattle.std.proofs.Common.{None}
use Rattle.transactions.specs.Entries.{tx_slots_of}
use Rattle.transactions.specs.Tables.{Table}
use Rattle.store_model.specs.Transactions.{SetsSlot}
use Rattle.std.proofs.Common.{subst}
use Rattle.transactions.proofs.Kept.{kept_vacated}
use Rattle.transactions.proofs.Slots.{puts}
use Rattle.transactions.proofs.table.TxTable.vacate.Goals as goal

pub invariant_of-self : goal.invariant_of-self
invariant_of-self c = kept_vacated _ _ _ _ _ _ c.self.inside.tx_slots c.try_remove.new.self c.args.slot _ c.drop_of.ensures c.self.invariant c.try_remove.ensures.updates

pub returns-clause-put : goal.returns-clause-put
returns-clause-put c = subst (λ (t : Table). SetsSlot t.tx_slots (tx_slots_of c.try_remove.new.self.slots) c.args.slot None) c.self.view_is (puts c.self.inside.tx_slots c.try_remove.new.self c.args.slot None c.try_remove.ensures.updates)
