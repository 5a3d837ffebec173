use Rattle.std.proofs.Common.{ℕ, ◌<◌, ◌≤◌}
use Rattle.std.specs.Prelude.{slice_index}
use Rattle.hive_cells.proofs.free_bounds.greatest.Given as goal

abbrev pub invariant-loop-bound : goal.invariant-loop-bound
invariant-loop-bound l = (k : ℕ) → k < l.bound-index → slice_index l.bounds k ≤ l.most
