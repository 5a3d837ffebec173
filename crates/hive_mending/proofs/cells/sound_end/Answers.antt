use Rattle.std.proofs.Common.{◌≡◌, ◌+◌, ◌%◌, ◌≤◌, arith}
use Rattle.hive_cells.specs.Tiles.{cell_size}
use Rattle.hive_mending.proofs.Mended.{sound_on, cells_start}
use Rattle.hive_mending.proofs.cells.sound_end.Goals as goal

pub loop-at-init : goal.loop-at-init
loop-at-init c = record { after = omega arith; within = c.requires.order; eights = c.requires.first; mends = λ gaps. cells_start c.args.bytes.now gaps c.args.end c.args.first c.requires.order c.requires.first }

pub loop-at-preserved : goal.loop-at-preserved
loop-at-preserved c =
    let eights : cell_size c.args.bytes.now c.loop-at.at % 8 ≡ 0 = c.in-Some.ensures.0.eights in
    let within : c.loop-at.at + cell_size c.args.bytes.now c.loop-at.at ≤ c.args.end = c.in-Some.ensures.0.within in
    record {
      after = omega (arith, c.loop-at.invariant.after, c.in-Some.ensures.1);
      within = omega (arith, within, c.in-Some.ensures.1);
      eights = omega (arith, eights, c.loop-at.invariant.eights, c.in-Some.ensures.1);
      mends = λ gaps. sound_on c.args.bytes.now gaps c.args.end c.args.first c.loop-at.at c.in-Some.behind c.in-Some.ensures.0 c.in-Some.ensures.1 (c.loop-at.invariant.mends gaps);
    }
