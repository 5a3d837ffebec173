use Rattle.std.proofs.Common.{arith}
use Rattle.hive_load_parts.proofs.BitFlags.{length_bits, flag_set}
use Rattle.hive_load_parts.proofs.flags.set_bit.Goals as goal

pub bounds-words-slot : goal.bounds-words-slot
bounds-words-slot c = omega (arith, length_bits c.args.words.now, c.requires)

pub bounds-words-slot-2 : goal.bounds-words-slot-2
bounds-words-slot-2 c = omega (arith, length_bits c.args.words.now, c.requires)

pub returns : goal.returns
returns c = flag_set c.args.words.now c.args.slot c.requires
