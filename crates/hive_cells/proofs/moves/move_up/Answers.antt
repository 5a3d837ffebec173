use Rattle.std.proofs.Common.{◌-◌, arith}
use Rattle.hive_cells.proofs.Blocks.{moved_up}
use Rattle.hive_cells.proofs.moves.move_up.Goals as goal

pub loop-left-preserved : goal.loop-left-preserved
loop-left-preserved c =
    let l = c.loop-left.invariant in
    let m = moved_up c.args.bytes.now c.loop-left.bytes c.move_block.new.bytes c.args.from c.args.to c.args.len c.loop-left.left (c.loop-left.left - c.min-count.result) c.min-count.result c.requires.order (omega (arith, c.min-count.ensures)) l.within l.written l.moved c.move_block.ensures.written c.move_block.ensures.moved in
    record {
      within = omega (arith, l.within);
      written = m.0;
      moved = m.1;
    }
