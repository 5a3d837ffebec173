use Rattle.std.proofs.Common.{◌≡◌, length}
use Rattle.reg_file.specs.Scanning.{strip}
use Rattle.reg_file.proofs.blanks.strip.Given as goal

abbrev pub invariant-loop-byte : goal.invariant-loop-byte
invariant-loop-byte l = strip l.wanted l.rest ≡ strip l.text l.line

abbrev pub decreases-loop-byte : goal.decreases-loop-byte
decreases-loop-byte l = length l.wanted
