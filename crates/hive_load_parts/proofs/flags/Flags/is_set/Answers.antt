use Rattle.std.proofs.Common.{◌∙◌, List, ℕ, Bool, sym, ap, false, slice_index_or}
use Rattle.hive_load_parts.specs.Bits.{bit_of}
use Rattle.hive_load_parts.proofs.BitFlags.{flag_is}
use Rattle.hive_load_parts.proofs.flags.Flags.is_set.Goals as goal

pub returns : goal.returns
returns c = c.bit.ensures ∙ ap (λ (words : List ℕ). bit_of words c.args.slot) c.deref.ensures.value ∙ sym (flag_is c.self.inside.words.items c.args.slot) ∙ ap (λ (flags : List Bool). slice_index_or flags c.args.slot false) c.self.view_is
