use Rattle.std.proofs.Common.{◌≡◌}
use Rattle.transactions.proofs.SlotsInTurn.{RolledBelow}
use Rattle.transactions.proofs.table.TxTable.roll_back_all.Given as goal

abbrev pub invariant-loop-owner : goal.invariant-loop-owner
invariant-loop-owner l = (l.self ≡ record l.fn.self { tx_slots = l.self.tx_slots }) × RolledBelow l.owner-items l.owner-index l.fn.self.tx_slots l.self.tx_slots
