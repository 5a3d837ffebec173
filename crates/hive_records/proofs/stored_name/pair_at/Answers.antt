use Rattle.std.proofs.Common.{sym, ◌∙◌, arith}
use Rattle.hive_records.proofs.Units.{length_pairs, pair_at}
use Rattle.hive_records.proofs.stored_name.pair_at.Goals as goal

pub overflow_mul-place : goal.overflow_mul-place
overflow_mul-place c = omega (arith, c.requires, length_pairs c.args.bytes.now)

pub u16_at-requires : goal.u16_at-requires
u16_at-requires c = omega (arith, c.requires, length_pairs c.args.bytes.now)

pub returns : goal.returns
returns c = c.u16_at.ensures ∙ sym (pair_at c.args.bytes.now c.args.place c.requires)
