use Rattle.std.proofs.Common.{◌≡◌, ◌++◌, take}
use Rattle.script_syntax.proofs.word_parser.push_bytes.Given as goal

abbrev pub invariant-loop-byte : goal.invariant-loop-byte
invariant-loop-byte l = l.units.items ≡ l.fn.units.items ++ take l.byte-index l.bytes
