use Rattle.std.proofs.Common.{◌≡◌, ◌+◌, length}
use Rattle.reg_tree.specs.Judgement.{applied}
use Rattle.transactions.specs.Entries.{AreRebased}
use Rattle.transactions.proofs.table.TxTable.rebase_views.Given as goal

abbrev pub invariant-loop-slot : goal.invariant-loop-slot
invariant-loop-slot l = (length l.rebased.items ≡ l.slot) × AreRebased (applied l.self.trees l.change l.moment) (l.self.number + 1) l.self.tx_slots l.rebased.items
