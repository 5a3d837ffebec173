use Rattle.std.proofs.Common.{◌≡◌, ◌++◌, ℕ, List, Option, length}
use Rattle.std.specs.List.{flat_map}
use Rattle.std.specs.Io.KnownBytes.{Appends}
use Rattle.value_syntax.specs.Printed.{char_text, text_chars}
use Rattle.value_syntax.proofs.printer.write_text.Given as goal

-- the word and the characters before those that are left were written
abbrev pub invariant-loop-c : goal.invariant-loop-c
invariant-loop-c g l =
    (done : List (Option ℕ)) × Appends (g.W.Write.contents l.fn.writer) (g.W.Write.contents l.writer) (l.word ++ flat_map char_text done) × (done ++ text_chars l.rest ≡ text_chars l.bytes)

abbrev pub decreases-loop-c : goal.decreases-loop-c
decreases-loop-c g l = length l.rest
