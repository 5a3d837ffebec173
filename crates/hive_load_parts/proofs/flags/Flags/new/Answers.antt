use Rattle.std.proofs.Common.{rules, ◌∙◌, arith}
use Rattle.hive_load_parts.proofs.BitFlags.{length_bits, flag_is, no_bit, zero_at}
use Rattle.hive_load_parts.proofs.flags.Flags.new.Goals as goal

pub returns-clause-many : goal.returns-clause-many
returns-clause-many c = omega (arith, length_bits c.in_ok-words.words.items, c.in_ok-words.ensures.len, c.div_ceil.ensures)

pub returns-clause-unset : goal.returns-clause-unset
returns-clause-unset c = λ slot. flag_is c.in_ok-words.words.items slot ∙ no_bit c.in_ok-words.words.items (λ i. search (rules, c.in_ok-words.ensures.items_if_clones_equal, zero_at)) slot
