use Rattle.std.proofs.Common.{inl, inr}
use Rattle.hive_load.proofs.Ends.{excluded_shallow}
use Rattle.hive_load.proofs.Untiled.{untiled}
use Rattle.hive_load.proofs.laws.refusals_exclude_trees_of_any_weight.Goals as goal

pub returns : goal.returns
returns c = λ bytes root minor why h some tree s. elim h [
  | inl untold ↦ untiled bytes why untold some s.0.0
  | inr load ↦ excluded_shallow bytes root minor why load some tree s.0 s.1
]
