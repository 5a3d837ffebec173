use Rattle.std.proofs.Common.{◌-◌, length}
use Rattle.hive_cells.specs.Starts.{WalkIsBetweenBins}
use Rattle.hive_cells.proofs.tiling.index_again.Given as goal

abbrev pub invariant-loop-bin : goal.invariant-loop-bin
invariant-loop-bin l = WalkIsBetweenBins l.bytes l.starts l.free l.bin

abbrev pub decreases-loop-bin : goal.decreases-loop-bin
decreases-loop-bin l = length l.bytes - l.bin
