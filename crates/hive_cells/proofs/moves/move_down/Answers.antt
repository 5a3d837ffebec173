use Rattle.std.proofs.Common.{arith}
use Rattle.hive_cells.proofs.Blocks.{moved_down}
use Rattle.hive_cells.proofs.moves.move_down.Goals as goal

pub loop-moved-preserved : goal.loop-moved-preserved
loop-moved-preserved c =
    let l = c.loop-moved.invariant in
    let m = moved_down c.args.bytes.now c.loop-moved.bytes c.move_block.new.bytes c.args.from c.args.to c.loop-moved.moved c.min-count.result c.requires.order l.written l.moved c.move_block.ensures.written c.move_block.ensures.moved in
    record {
      within = omega (arith, c.min-count.ensures, c.loop-moved-test.true);
      written = m.0;
      moved = m.1;
    }
