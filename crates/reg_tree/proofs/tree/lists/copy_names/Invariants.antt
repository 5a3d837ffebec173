use Rattle.std.proofs.Common.{◌≡◌, take}
use Rattle.reg_tree.proofs.tree.lists.copy_names.Given as goal

-- the first names
abbrev pub invariant-loop-index : goal.invariant-loop-index
invariant-loop-index g l = l.names.items ≡ take l.index (g.L.Named.names l.from)
