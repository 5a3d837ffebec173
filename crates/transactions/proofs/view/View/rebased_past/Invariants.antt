use Rattle.std.proofs.Common.{◌≡◌, ◌<◌, take, length}
use Rattle.reg_tree.specs.Judgement.{applied}
use Rattle.transactions.specs.Entries.{StaysViewAfter}
use Rattle.transactions.proofs.view.View.rebased_past.Given as goal

-- the trees are those of now before the next operation, if there is one
abbrev pub invariant-loop-op : goal.invariant-loop-op
invariant-loop-op l = StaysViewAfter l.now (take l.op-index l.change) l.moment l.self l.seen × (l.seen.number ≡ l.number) × (l.op-index < length l.change → l.trees ≡ applied l.now (take l.op-index l.change) l.moment)
