use Rattle.std.proofs.Common.{◌≡◌}
use Rattle.transactions.proofs.SlotsInTurn.{GoneBelow}
use Rattle.transactions.proofs.table.TxTable.end_session.Given as goal

abbrev pub invariant-loop-slot : goal.invariant-loop-slot
invariant-loop-slot l = (l.self ≡ record l.fn.self { tx_slots = l.self.tx_slots }) × GoneBelow l.session l.slot l.fn.self.tx_slots l.self.tx_slots
