use Rattle.transactions.proofs.Kept.{kept_moved}
use Rattle.transactions.proofs.table.TxTable.accept.Goals as goal

pub invariant_of-self : goal.invariant_of-self
invariant_of-self c = kept_moved _ _ _ _ _ _ _ _ c.self.invariant
