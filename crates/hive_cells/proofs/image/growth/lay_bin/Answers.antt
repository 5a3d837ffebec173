use Rattle.std.proofs.Common.{arith}
use Rattle.hive_cells.proofs.NewBin.{lays}
use Rattle.hive_cells.proofs.image.growth.lay_bin.Goals as goal

pub returns : goal.returns
returns c =
    lays c.args.bytes.now _ _ _ _ c.args.at _ (omega arith) (omega arith) c.requires.zeros
    c.put_u32.ensures.put c.put_u32.ensures.others c.put_u32.auto.bytes
    c.put_u32-2.ensures.put c.put_u32-2.ensures.others c.put_u32-2.auto.bytes
    c.put_u32-3.ensures.put c.put_u32-3.ensures.others c.put_u32-3.auto.bytes
    c.put_size.ensures
