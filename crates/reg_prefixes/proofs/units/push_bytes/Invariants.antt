use Rattle.std.proofs.Common.{◌≡◌, ◌++◌, take}
use Rattle.reg_prefixes.proofs.units.push_bytes.Given as goal

abbrev pub invariant-loop-byte : goal.invariant-loop-byte
invariant-loop-byte l = l.units.items ≡ l.fn.units.items ++ take l.byte-index l.bytes
