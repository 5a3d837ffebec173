use Rattle.std.proofs.Common.{◌≡◌, ◌≤◌, length}
use Rattle.reg_file.specs.Lines.{utf16_lines, onto_lines}
use Rattle.reg_file.proofs.lines.read_utf16.Given as goal

abbrev pub invariant-loop-low : goal.invariant-loop-low
invariant-loop-low l = (onto_lines l.line.items (utf16_lines l.rest) ≡ utf16_lines l.bytes) × (length l.rest ≤ length l.bytes)

abbrev pub decreases-loop-low : goal.decreases-loop-low
decreases-loop-low l = length l.rest
