use Rattle.std.proofs.Common.{refl}
use Rattle.dirt_log.proofs.PageBytes.{head_laid}
use Rattle.dirt_log.proofs.steps.put_head.Goals as goal

pub returns : goal.returns
returns c =
    head_laid c.args.vector.now c.args.sector.now _ c.args.buffer.now c.put.new.buffer c.put-2.new.buffer c.put_bitmap.new.buffer c.put_zeros.new.buffer _ _
    c.requires.sector refl c.bins_size-bins_size.ensures.value c.pages_start.ensures c.put.ensures c.put-2.ensures c.put_bitmap.ensures c.put_zeros.ensures
