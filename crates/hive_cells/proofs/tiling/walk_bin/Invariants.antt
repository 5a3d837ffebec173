use Rattle.std.proofs.Common.{◌-◌}
use Rattle.hive_cells.specs.Starts.{WalkIsInBin}
use Rattle.hive_cells.proofs.tiling.walk_bin.Given as goal

abbrev pub invariant-loop-cell : goal.invariant-loop-cell
invariant-loop-cell l = WalkIsInBin l.bytes l.starts l.free l.end l.cell

abbrev pub decreases-loop-cell : goal.decreases-loop-cell
decreases-loop-cell l = l.end - l.cell
