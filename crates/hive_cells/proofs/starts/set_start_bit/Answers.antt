use Rattle.hive_cells.proofs.Bits.{put_one, put_none}
use Rattle.hive_cells.proofs.starts.set_start_bit.Goals as goal

pub returns-then-begins : goal.returns-then-begins
returns-then-begins c = put_one _ _ _ c.if-begins.true c.requires

pub returns-else-begins : goal.returns-else-begins
returns-else-begins c = put_none _ _ _ c.if-begins.false c.requires
