use Rattle.std.proofs.Common.{take}
use Rattle.transactions.specs.Entries.{AreAfter}
use Rattle.transactions.proofs.view.carry_out.Given as goal

abbrev pub invariant-loop-op : goal.invariant-loop-op
invariant-loop-op l = AreAfter l.now (take l.op-index l.ops) l.moment l.trees
