use Rattle.hive_cells.proofs.Bits.{word_empty, word_last}
use Rattle.hive_cells.proofs.starts.last_bit.Goals as goal

pub returns-in_err-bit : goal.returns-in_err-bit
returns-in_err-bit c = rw c.from_residual.ensures (word_empty c.args.word c.args.last c.requires c.in_err-bit.ensures.none)

pub returns : goal.returns
returns c = word_last c.args.word c.args.last _ c.requires c.in_ok-bit.ensures.power_le c.in_ok-bit.ensures.next_power_gt
