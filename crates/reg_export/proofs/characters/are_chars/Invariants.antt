use Rattle.std.proofs.Common.{◌≡◌, length}
use Rattle.reg_export.specs.NameTests.{are_chars}
use Rattle.reg_export.proofs.characters.are_chars.Given as goal

-- those that are left decide
abbrev pub invariant-loop-first : goal.invariant-loop-first
invariant-loop-first l = are_chars l.rest ≡ are_chars l.units

abbrev pub decreases-loop-first : goal.decreases-loop-first
decreases-loop-first l = length l.rest
