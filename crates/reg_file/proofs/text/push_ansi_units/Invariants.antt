use Rattle.std.proofs.Common.{◌≡◌, ◌++◌, take}
use Rattle.std.specs.Prelude.{flat_map}
use Rattle.std.specs.Int.{w16, to_le_bytes}
use Rattle.reg_file.specs.CodePage.{ansi_unit}
use Rattle.reg_file.proofs.text.push_ansi_units.Given as goal

abbrev pub invariant-loop-byte : goal.invariant-loop-byte
invariant-loop-byte l = l.units.items ≡ l.fn.units.items ++ flat_map (λ byte. to_le_bytes w16 (ansi_unit byte)) (take l.byte-index l.bytes)
