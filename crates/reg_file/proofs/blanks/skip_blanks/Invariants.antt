use Rattle.std.proofs.Common.{◌≡◌, length}
use Rattle.reg_file.specs.Scanning.{skip_blanks}
use Rattle.reg_file.proofs.blanks.skip_blanks.Given as goal

abbrev pub invariant-loop-unit : goal.invariant-loop-unit
invariant-loop-unit l = skip_blanks l.rest ≡ skip_blanks l.line

abbrev pub decreases-loop-unit : goal.decreases-loop-unit
decreases-loop-unit l = length l.rest
