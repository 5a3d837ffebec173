use Rattle.std.proofs.Common.{◌≡◌, drop}
use Rattle.reg_tree.specs.Judgement.{applied, any_outweighs}
use Rattle.reg_tree.proofs.trees.Trees.apply_within.Given as goal

-- what the operations to come make of the trees, and whether one of them outweighs, is what all do of the first trees
abbrev pub invariant-loop-op : goal.invariant-loop-op
invariant-loop-op l =
    (applied l.made (drop l.op-index l.ops) l.moment ≡ applied l.self l.ops l.moment)
    × (any_outweighs l.made (drop l.op-index l.ops) l.moment ≡ any_outweighs l.self l.ops l.moment)
