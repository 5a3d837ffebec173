use Rattle.std.proofs.Common.{◌≡◌, length}
use Rattle.value_syntax.specs.Printed.{has_separator, text_chars}
use Rattle.value_syntax.proofs.characters.has_separator.Given as goal

-- those that are left decide
abbrev pub invariant-loop-c : goal.invariant-loop-c
invariant-loop-c l = has_separator (text_chars l.rest) ≡ has_separator (text_chars l.bytes)

abbrev pub decreases-loop-c : goal.decreases-loop-c
decreases-loop-c l = length l.rest
