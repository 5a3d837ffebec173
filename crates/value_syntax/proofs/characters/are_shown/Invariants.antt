use Rattle.std.proofs.Common.{◌≡◌, length}
use Rattle.std.specs.List.{list_all}
use Rattle.value_syntax.specs.Printed.{is_shown_in, text_chars}
use Rattle.value_syntax.proofs.characters.are_shown.Given as goal

-- those that are left decide
abbrev pub invariant-loop-c : goal.invariant-loop-c
invariant-loop-c l = list_all (is_shown_in l.among_texts) (text_chars l.rest) ≡ list_all (is_shown_in l.among_texts) (text_chars l.bytes)

abbrev pub decreases-loop-c : goal.decreases-loop-c
decreases-loop-c l = length l.rest
