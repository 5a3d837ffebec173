use Rattle.std.proofs.Common.{◌≡◌, drop}
use Rattle.reg_tree.specs.Judgement.{applied}
use Rattle.reg_tree.proofs.trees.Trees.apply_ops.Given as goal

abbrev pub invariant-loop-op : goal.invariant-loop-op
invariant-loop-op l = applied l.made (drop l.op-index l.ops) l.moment ≡ applied l.self l.ops l.moment
