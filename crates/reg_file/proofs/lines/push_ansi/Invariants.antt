use Rattle.std.proofs.Common.{◌≡◌, ◌++◌, take, map}
use Rattle.reg_file.specs.CodePage.{ansi_unit}
use Rattle.reg_file.proofs.lines.push_ansi.Given as goal

abbrev pub invariant-loop-byte : goal.invariant-loop-byte
invariant-loop-byte l = l.line.items ≡ l.fn.line.items ++ map ansi_unit (take l.byte-index l.bytes)
