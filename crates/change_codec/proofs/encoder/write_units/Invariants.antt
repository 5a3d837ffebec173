use Rattle.std.proofs.Common.{◌≡◌, ◌++◌, take}
use Rattle.change_codec.proofs.encoder.write_units.Given as goal

abbrev pub invariant-loop-unit : goal.invariant-loop-unit
invariant-loop-unit l = l.bytes.items ≡ l.fn.bytes.items ++ take l.unit-index l.units
