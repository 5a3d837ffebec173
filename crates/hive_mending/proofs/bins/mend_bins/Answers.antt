use Rattle.std.proofs.Common.{refl, arith}
use Rattle.hive_mending.proofs.Mended.{mending_start, bins_on}
use Rattle.hive_mending.proofs.Laws.{mended}
use Rattle.hive_mending.proofs.bins.mend_bins.Goals as goal

pub loop-at-init : goal.loop-at-init
loop-at-init c = record { pages = refl; within = omega arith; mended = mending_start _ _ c.requires.none }

pub loop-at-preserved : goal.loop-at-preserved
loop-at-preserved c =
    record {
      pages = c.in_ok-at.ensures.pages;
      within = omega (arith, c.in_ok-at.ensures.within, c.in_ok-at.ensures.len);
      mended = bins_on _ _ _ _ _ _ _ c.loop-at.invariant.mended c.in_ok-at.ensures;
    }

pub returns : goal.returns
returns c = mended _ _ _ _ c.requires.pages c.loop-at.invariant.within c.loop-at-test.false c.loop-at.invariant.mended
