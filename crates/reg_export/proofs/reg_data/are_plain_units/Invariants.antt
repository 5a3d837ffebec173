use Rattle.std.proofs.Common.{◌≡◌, length}
use Rattle.std.specs.List.{list_all}
use Rattle.reg_names.specs.Printable.{is_printable}
use Rattle.reg_export.specs.ByteUnits.{units_of}
use Rattle.reg_export.proofs.reg_data.are_plain_units.Given as goal

-- those that are left decide
abbrev pub invariant-loop-unit : goal.invariant-loop-unit
invariant-loop-unit l = list_all is_printable (units_of l.rest) ≡ list_all is_printable (units_of l.bytes)

abbrev pub decreases-loop-unit : goal.decreases-loop-unit
decreases-loop-unit l = length l.rest
