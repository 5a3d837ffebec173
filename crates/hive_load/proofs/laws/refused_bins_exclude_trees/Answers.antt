use Rattle.std.proofs.Common.{inl, inr}
use Rattle.hive_load.proofs.Ends.{excluded}
use Rattle.hive_load.proofs.Untiled.{untiled}
use Rattle.hive_load.proofs.laws.refused_bins_exclude_trees.Goals as goal

pub returns : goal.returns
returns c = λ bytes root minor why h some tree s. elim h [
  | inl untold ↦ untiled bytes why untold some s.0.0
  | inr load ↦ excluded bytes root minor why load some tree s.0 s.1
]
