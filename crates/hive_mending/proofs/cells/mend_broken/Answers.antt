use Rattle.std.proofs.Common.{arith}
use Rattle.hive_mending.proofs.Mended.{cells_on, restart_now}
use Rattle.hive_mending.proofs.cells.mend_broken.Goals as goal

pub mend_cell-requires-clause-restart : goal.mend_cell-requires-clause-restart
mend_cell-requires-clause-restart c = restart_now c.args.bytes.now c.loop-at.bytes _ _ _ _ _ _ c.requires.first c.loop-at.invariant.after c.requires.restarts c.loop-at.invariant.mends

pub loop-at-preserved : goal.loop-at-preserved
loop-at-preserved c =
    record {
      after = omega (arith, c.loop-at.invariant.after, c.in_ok-at.ensures.later);
      mends = cells_on _ _ _ _ _ _ _ _ _ _ c.loop-at.invariant.mends c.in_ok-at.ensures;
    }
