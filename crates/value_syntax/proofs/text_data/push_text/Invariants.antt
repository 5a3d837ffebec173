use Rattle.std.proofs.Common.{◌≡◌, ◌++◌}
use Rattle.std.specs.List.{flat_map}
use Rattle.value_syntax.specs.Data.{char_bytes}
use Rattle.value_syntax.proofs.text_data.push_text.Given as goal

abbrev pub invariant-loop-c : goal.invariant-loop-c
invariant-loop-c l = l.bytes.items ≡ l.fn.bytes.items ++ flat_map char_bytes l.yielded
