use Rattle.std.proofs.Common.{◌≡◌, ◌≤◌, length}
use Rattle.std.specs.Prelude.{reverse}
use Rattle.reg_file.specs.Scanning.{from_bracket}
use Rattle.reg_file.proofs.key_line.up_to_bracket.Given as goal

abbrev pub invariant-loop-unit : goal.invariant-loop-unit
invariant-loop-unit l = (from_bracket (reverse l.front) ≡ from_bracket (reverse l.line)) × (length l.front ≤ length l.line)

abbrev pub decreases-loop-unit : goal.decreases-loop-unit
decreases-loop-unit l = length l.front
