use Rattle.std.proofs.Common.{◌<◌, ◌+◌, arith}
use Rattle.hive_cells.proofs.Walk.{bin_walked, bin_done}
use Rattle.hive_cells.proofs.tiling.walk_bin.Goals as goal

pub loop-cell-init : goal.loop-cell-init
loop-cell-init c = (bin_walked _ _ _ _ _ c.requires.walk c.requires.before c.in_ok-end.ensures.0 c.in_ok-end.ensures.1).1

pub returns : goal.returns
returns c =
    let below : c.args.at + 32 < c.in_ok-end.end = (bin_walked _ _ _ _ _ c.requires.walk c.requires.before c.in_ok-end.ensures.0 c.in_ok-end.ensures.1).0 in
    (omega arith, bin_done _ _ _ _ _ c.loop-cell.invariant c.loop-cell-test.false)
