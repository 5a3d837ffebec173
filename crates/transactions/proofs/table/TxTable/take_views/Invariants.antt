use Rattle.std.proofs.Common.{◌≡◌, vec_len}
use Rattle.transactions.specs.Entries.{AreRebased}
use Rattle.transactions.proofs.table.TxTable.take_views.Given as goal

abbrev pub invariant-loop-view : goal.invariant-loop-view
invariant-loop-view l = (l.self ≡ l.fn.self) × AreRebased l.self.trees l.self.number l.self.tx_slots l.rebased.items

abbrev pub decreases-loop-view : goal.decreases-loop-view
decreases-loop-view l = vec_len l.rebased
