use Rattle.std.proofs.Common.{◌≡◌, ◌+◌, ◌-◌, ◌^◌, take, length}
use Rattle.std.specs.Prelude.{min}
use Rattle.std.specs.List.{flat_map}
use Rattle.reg_export.specs.RegTexts.{escaped_unit}
use Rattle.reg_export.proofs.reg_value.head_columns.Given as goal

-- the units so far, and three for the quotes and the equals sign
abbrev pub invariant-loop-unit : goal.invariant-loop-unit
invariant-loop-unit l = l.columns ≡ min (3 + length (flat_map escaped_unit (take l.unit-index l.name))) (2 ^ 64 - 1)
